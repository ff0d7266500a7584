-- What a connection says is what the model's says.
use Rattle.std.proofs.Common.{◌≡◌, ℕ, ◌-◌, ◌≤◌, min, max, List, sym, ap, ◌∙◌, arith}
use Rattle.hold.specs.Packet as m
use Rattle.hold.specs.Packet.{larger, lower}
use Rattle.hold.specs.Conn.{Conn, says, due}
use Rattle.hold.proofs.Bridge.{larger_lib, lower_lib}
use Rattle.packet.specs.Sizes.{text_size}
use Rattle.connection.specs.Stand.{conn_of, Stand1, rings, text_at}
use Rattle.connection.specs.declared.connection.Connection.{Connection}

-- r is the text from p on with at most k bytes
abbrev pub IsText : m.Settings → Connection → List ℕ → ℕ → ℕ → m.Packet → Type 0
IsText cfg x ring p k r = (into bits : List ℕ) (c : Conn) → Stand1 cfg x (rings ring into bits) c → x.stream.sender.upto ≤ p → r ≡ text_at cfg p (min k text_size) c

pub due_is : (cfg : m.Settings) (x : Connection) (ring : List ℕ) (k : ℕ) (r : m.Packet) → cfg.size ≤ text_size → k ≡ max (min cfg.size (x.stream.sees - x.stream.sender.upto)) 1 → IsText cfg x ring x.stream.sender.upto k r →
    (into bits : List ℕ) (c : Conn) → Stand1 cfg x (rings ring into bits) c → r ≡ due cfg c
due_is cfg x ring k r short ek t into bits c st =
    let u = x.stream.sender.upto in
    let d = conn_of x st.past in
    let e : min k text_size ≡ larger 1 (lower cfg.size (x.stream.sees - u)) =
    (let q : min k text_size ≡ max 1 (min cfg.size (x.stream.sees - u)) = omega (arith, ek, short) in q) ∙ ap (max 1) (sym (lower_lib cfg.size (x.stream.sees - u))) ∙ sym (larger_lib 1 (lower cfg.size (x.stream.sees - u))) in
    t into bits c st (omega arith) ∙ ap (text_at cfg u (min k text_size)) (sym st.is) ∙ ap (λ j. text_at cfg u j d) e ∙ ap (due cfg) st.is

pub says_is : (cfg : m.Settings) (x : Connection) (ring : List ℕ) (p most f k : ℕ) (r : m.Packet) → cfg.size ≤ text_size → f ≡ max x.stream.sender.upto p → k ≡ min (min most cfg.size) (x.stream.sees - f) →
    IsText cfg x ring f k r → (into bits : List ℕ) (c : Conn) → Stand1 cfg x (rings ring into bits) c → r ≡ says cfg (max c.upto p) (min most cfg.size) c
says_is cfg x ring p most f k r short ef ek t into bits c st =
    let d = conn_of x st.past in
    let e : min k text_size ≡ lower (min most cfg.size) (x.stream.sees - f) =
    (let q : min k text_size ≡ min (min most cfg.size) (x.stream.sees - f) = omega (arith, ek, short) in q) ∙ sym (lower_lib (min most cfg.size) (x.stream.sees - f)) in
    t into bits c st (omega arith) ∙ ap (text_at cfg f (min k text_size)) (sym st.is) ∙ ap (λ j. text_at cfg f j d) e ∙
    ap (λ j. says cfg j (min most cfg.size) d) ef ∙ ap (λ b. says cfg (max b.upto p) (min most cfg.size) b) st.is
