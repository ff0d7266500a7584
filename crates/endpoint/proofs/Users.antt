-- What users give and take.
use Rattle.std.proofs.Common.{◌≡◌, ℕ, min, Bool, true, false, cond, ◌&&◌, ltb, leb, List, length, sym, ap, ◌∙◌}
use Rattle.hold.specs.Conn.{Conn}
use Rattle.hold.specs.Packet.{Settings}
use Rattle.hold.specs.World.{There}
use Rattle.lent.specs.Sending.{free, most}
use Rattle.connection.specs.Stand.{Rings, Stand1}
use Rattle.connection.specs.declared.connection.Connection.{Connection}
use Rattle.endpoint.specs.Calls.{give_number}

module _ (k : Settings) {mem : Rings} (x : Connection) (c : Conn) (s : Stand1 k x mem c) where
  given_is : x.stream.sender.given ≡ length c.given
  given_is = s.waits.given_all ∙ ap (λ (d : Conn). length d.given) s.is

  -- the number of a give, by the code's own values
  give-number : (bs : List ℕ) → give_number bs (There c) ≡ cond x.stream.closed 6 (cond (leb most x.stream.sender.given && ltb 0 (length bs)) 9 0)
  give-number bs = ap (λ b. cond b 6 (cond (leb most (length c.given) && ltb 0 (length bs)) 9 0)) (ap (λ (d : Conn). d.closed) (sym s.is)) ∙ ap (λ n. cond x.stream.closed 6 (cond (leb most n && ltb 0 (length bs)) 9 0)) (sym given_is)

  pub give_closed : (bs : List ℕ) → x.stream.closed ≡ true → give_number bs (There c) ≡ 6
  give_closed bs e = give-number bs ∙ ap (λ b. cond b 6 (cond (leb most x.stream.sender.given && ltb 0 (length bs)) 9 0)) e

  pub give-open : (bs : List ℕ) (b : Bool) → x.stream.closed ≡ false → (leb most x.stream.sender.given && ltb 0 (length bs)) ≡ b → give_number bs (There c) ≡ cond b 9 0
  give-open bs b e h = give-number bs ∙ ap (λ b. cond b 6 (cond (leb most x.stream.sender.given && ltb 0 (length bs)) 9 0)) e ∙ ap (λ b. cond b 9 0) h

  pub give-count : (bs : List ℕ) (n : ℕ) → x.stream.closed ≡ false → n ≡ cond x.stream.closed 0 (min (length bs) (free x.stream.sender.given x.stream.sender.upto)) →
      n ≡ min (length bs) (free (length c.given) c.upto)
  give-count bs n e q =
      q ∙ ap (λ b. cond b 0 (min (length bs) (free x.stream.sender.given x.stream.sender.upto))) e ∙ ap (λ g. min (length bs) (free g x.stream.sender.upto)) given_is ∙
      ap (λ (d : Conn). min (length bs) (free (length c.given) d.upto)) s.is
