use Rattle.party.proofs.Views.{said, view_is}
use Rattle.party.proofs.look.view.Goals as goal

pub returns : goal.returns
returns c cfg mem d s =
    let e = view_is cfg mem c.args.c.now d s in
    let a = c.is_asked.ensures in
    let b = c.speaks.ensures in
    let h = c.is_some.ensures in
    let k = said c.args.c.now.stream.end in
    let o = c.owes.ensures cfg mem d s in
    cc
