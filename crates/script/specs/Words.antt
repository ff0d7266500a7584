-- The words of the format, and which of them may stand where.
use Rattle.std.specs.Prelude.{ℕ, List, [], ◌∷◌, ◌++◌, map, codes}
use Rattle.script.specs.declared.line.Side.{Side}
use Rattle.script.specs.declared.line.Side.TheVariants.{L, R}
use Rattle.script.specs.declared.word.Verb.{Verb}
use Rattle.script.specs.declared.word.Verb.TheVariants.{Listen, Open, Accept, Give, Take, Close, Break, State, Due, Answer, Send, Forget}
use Rattle.script.specs.declared.word.Switch.{Switch}
use Rattle.script.specs.declared.word.Switch.TheVariants.{On, Off}
use Rattle.script.specs.declared.word.Head.{Head}
use Rattle.script.specs.declared.word.Head.TheVariants.{At, Do, Settings, Bring, Damage, Drive, Tick}

abbrev pub spelled_side : Side → List ℕ
spelled_side L = codes "L"
spelled_side R = codes "R"

abbrev pub spelled_switch : Switch → List ℕ
spelled_switch On = codes "on"
spelled_switch Off = codes "off"

abbrev pub spelled_verb : Verb → List ℕ
spelled_verb Listen = codes "listen"
spelled_verb Open = codes "open"
spelled_verb Accept = codes "accept"
spelled_verb Give = codes "give"
spelled_verb Take = codes "take"
spelled_verb Close = codes "close"
spelled_verb Break = codes "break"
spelled_verb State = codes "state"
spelled_verb Due = codes "due"
spelled_verb Answer = codes "answer"
spelled_verb Send = codes "send"
spelled_verb Forget = codes "forget"

abbrev pub spelled_head : Head → List ℕ
spelled_head (At s) = spelled_side s
spelled_head (Do v) = spelled_verb v
spelled_head Settings = codes "settings"
spelled_head Bring = codes "bring"
spelled_head Damage = codes "damage"
spelled_head Drive = codes "drive"
spelled_head Tick = codes "tick"

abbrev pub sides : List Side
sides = L ∷ R ∷ []

abbrev pub switches : List Switch
switches = On ∷ Off ∷ []

abbrev pub verbs : List Verb
verbs = Listen ∷ Open ∷ Accept ∷ Give ∷ Take ∷ Close ∷ Break ∷ State ∷ Due ∷ Answer ∷ Send ∷ Forget ∷ []

abbrev pub heads : List Head
heads = map At sides ++ (map Do verbs ++ (Settings ∷ Bring ∷ Damage ∷ Drive ∷ Tick ∷ []))
