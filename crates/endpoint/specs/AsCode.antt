-- What an end takes and what it refuses, over ends of the model: with this it is a code in the model's sense.
use Rattle.std.specs.Prelude.{◌≡◌, ℕ, ◌^◌, Bool, true, false, cond, not, ◌&&◌, List, [], length, Ok, Err, Option, Result, ◌==◌, nat_le, nat_lt}
use Rattle.hold.specs.Code.{Code, SameEnd, all_below, done_by, heard_by, is_there, living, readable, send_fits, sent_by, takes_place}
use Rattle.hold.specs.Packet as m
use Rattle.hold.specs.Promise.{tags}
use Rattle.hold.specs.World.{Breaks, Closes, Due, End, Ev, Forgets, Found, Gives, Hears, Listens, NotThere, Opens, Sends, Takes, There, Who, by_tag, is_in}
use Rattle.packet.specs.declared.packet.Packet.{Packet}
use Rattle.lent.specs.Sending.{free}
use Rattle.endpoint.specs.Calls.{Broken, Finished, Gave, Opened}
use Rattle.endpoint.specs.Hearing.{HeardAs}
use Rattle.endpoint.specs.Stands.{Stands}
use Rattle.endpoint.specs.declared.Endpoint.{Endpoint}
use Rattle.endpoint.specs.declared.Refusal.{Refusal}

-- bytes are given to one that has not closed, as many as have room
abbrev pub give_fits : List ℕ → Found → Bool
give_fits bs NotThere = false
give_fits bs (There c) = not c.closed && all_below 256 bs && nat_le (length bs) (free (length c.given) c.upto)

abbrev pub close_fits : Found → Bool
close_fits NotThere = false
close_fits (There c) = not c.closed

-- fewer than sixteen live
abbrev pub room_for : End → Bool
room_for s = nat_lt (living s.conns) 16

-- what this end takes
abbrev pub takes_it : m.Settings → Ev → End → Bool
takes_it cfg (Listens o b) s = true
takes_it cfg (Opens o t) s = not (t == 0) && nat_lt t (2 ^ 64) && room_for s && not (is_in t (tags s.conns))
takes_it cfg (Due o t) s = true
takes_it cfg (Gives o t bs) s = give_fits bs (by_tag t s.conns)
takes_it cfg (Closes o t) s = close_fits (by_tag t s.conns)
takes_it cfg (Takes o t k) s = is_there (by_tag t s.conns)
takes_it cfg (Sends o t p k) s = send_fits cfg p k (by_tag t s.conns)
takes_it cfg (Breaks o t) s = is_there (by_tag t s.conns)
takes_it cfg (Forgets o t) s = true
takes_it cfg (Hears o i t) s = true

-- an ask that wants a place where there is none is dropped; whatever else is heard
abbrev pub is_dropped : m.Packet → End → Bool
is_dropped p s = takes_place p s && not (room_for s)

-- a code in the model's sense that takes just this, does the model's steps with it, and leaves all as it is with what it refuses
pub record CodeTaking (cfg : m.Settings) : Type 0 where
  pub code : Code cfg 16 End SameEnd
  pub fits : (e : Ev) (s : End) → code.fits e s ≡ takes_it cfg e s
  pub call : (e : Ev) (s : End) → code.call e s ≡ cond (takes_it cfg e s) (done_by e s) s
  pub out : (e : Ev) (s : End) → code.out e s ≡ cond (takes_it cfg e s) (sent_by cfg e s) []
  pub room : (s : End) → code.room_for s ≡ room_for s
  pub hears : (p : m.Packet) (t : ℕ) (s : End) → code.hears p t s ≡ cond (is_dropped p s) s (heard_by cfg p t p.kind s).now
  pub out_of_hears : (p : m.Packet) (t : ℕ) (s : End) → code.out_of_hears p t s ≡ cond (is_dropped p s) [] (heard_by cfg p t p.kind s).sent

abbrev pub is_ok : {A : Type 0} → Result A Refusal → Bool
is_ok (Ok a) = true
is_ok (Err f) = false

-- What the contracts of the calls and of hearing say agrees with that: what is taken there is not refused here. That a call that is not refused does the step of the model, and one that is refused changes nothing, the contracts say themselves.
pub record Agrees : Type 0 where
  pub opens : (x y : Endpoint) (t : ℕ) (r : Result Packet Refusal) → Opened x y t r → (e : End) → Stands x e → (cfg : m.Settings) (o : Who) → takes_it cfg (Opens o t) e ≡ true → is_ok r ≡ true
  pub gives : (x y : Endpoint) (t : ℕ) (bs : List ℕ) (r : Result ℕ Refusal) → Gave x y t bs r → (e : End) → Stands x e → (cfg : m.Settings) (o : Who) → takes_it cfg (Gives o t bs) e ≡ true → r ≡ Ok (length bs)
  pub closes : (x y : Endpoint) (t : ℕ) (r : Result (Unit {0}) Refusal) → Finished x y t r → (e : End) → Stands x e → (cfg : m.Settings) (o : Who) → takes_it cfg (Closes o t) e ≡ true → is_ok r ≡ true
  pub breaks : (x y : Endpoint) (t : ℕ) (r : Result (Option Packet) Refusal) → Broken x y t r → (e : End) → Stands x e → (cfg : m.Settings) (o : Who) → takes_it cfg (Breaks o t) e ≡ true → is_ok r ≡ true
  pub hears : (x y : Endpoint) (p : m.Packet) (t : ℕ) (r : Result (Option Packet) Refusal) → HeardAs x y p t r → (e : End) → Stands x e → readable p ≡ true → (t == 0) ≡ false → is_in t (tags e.conns) ≡ false → is_dropped p e ≡ false → is_ok r ≡ true
