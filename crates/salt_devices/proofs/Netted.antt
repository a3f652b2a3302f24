-- The net of a store that is held.
use Rattle.salt_commit.specs.Messages.{IsAtRest, IsNewIn, messages_of, net_of, with_waiting}
use Rattle.salt_commit.specs.declared.store.Store.{Store}
use Rattle.salt_devices.specs.Holding.{IsHeld, IsNewWith, IsStanding, NetFits, net_in}
use Rattle.salt_disk.specs.Disks.{View}
use Rattle.salt_model.specs.Kept.{Kept}
use Rattle.salt_net.specs.Paces.{Pace, turning_of}
use Rattle.salt_net.specs.Turns.{Turning}
use Rattle.salt_place.specs.declared.placement.Shape.{Shape}
use Rattle.salt_storage.specs.Netted.{net_armed}
use Rattle.salt_turns.specs.Amid.{IsUnknown, Rests}
use Rattle.salt_values.specs.Id.{is_same_id}
use Rattle.salt_values.specs.declared.id.Id.{Id}
use Rattle.std.specs.declared.alloc.AllocError.{AllocError}
use Rattle.std.proofs.Common.{Err, List, Ok, Option, Result, Some, ap, arith, false, subst, sym, ℕ, ◌<◌, ◌≡◌, ◌≤◌, ◌∙◌}
use Rattle.std.proofs.lemmas.Bool.Decides.{nat_tests}
use Rattle.std.specs.Prelude.{Bool, IfSome, OnErr, OnOk, option_map, ⊤, ◌&&◌, ◌==◌}

pub new_same : (x y : Store) (u : Id) → messages_of y ≡ messages_of x → IsNewIn x u → IsNewIn y u
new_same x y u same new = subst (λ (o : Option Pace). IfSome o (IsUnknown u)) (sym same) new

-- a unit that is new to what stands in a place
pub new_there : (o : Option Store) (x : Store) (u : Id) → o ≡ Some x → IfSome o (λ z. IsNewIn z u) → IsNewIn x u
new_there o x u is new = subst (λ (z : Option Store). IfSome z (λ s. IsNewIn s u)) is new

-- a call that leaves it as it was, also behind a boot
pub net_same : (x y : Store) (b c : ℕ) → messages_of y ≡ messages_of x → b ≤ c → NetFits x b → NetFits y c
net_same x y b c same later h = record {
  rests = subst (λ (o : Option Pace). IfSome o Rests) (sym same) h.rests;
  later = λ u k. new_same x y u same (h.later u (omega (arith, k, later)));
}

-- a store that was opened is put over messages, or is not
pub record IsWithNet (x y : Store) : Type 0 where
  pub rests : IsAtRest y
  pub new : (u : Id) → IsNewIn y u
  pub rest : y ≡ record x { messages = messages_of y }

pub net_with : (x y : Store) (b : ℕ) → IsWithNet x y → NetFits y b
net_with x y b h = record { rests = h.rests; later = λ u k. h.new u }

-- it holds what it held
pub held_as : (d : View) (shape : Shape) (x y : Store) (k : Kept) → y ≡ record x { messages = messages_of y } → IsHeld d shape x k → IsHeld d shape y k
held_as d shape x y k rest h = subst (λ (z : Store). IsHeld d shape z k) (sym rest) (record {
  which = h.which;
  told = h.told;
  c = h.c;
  v = h.v;
  is = record { decisions = h.is.decisions; size = h.is.size; parts = h.is.parts; sound = h.is.sound };
  newest = h.newest;
  keeps = h.keeps;
  kept = h.kept;
})

-- and stands as it stood
pub standing_as : (d : View) (shape : Shape) (x y : Store) → y ≡ record x { messages = messages_of y } → IsStanding d shape x → IsStanding d shape y
standing_as d shape x y rest h = subst (λ (z : Store). IsStanding d shape z) (sym rest) (record {
  which = h.which;
  c = h.c;
  v = h.v;
  is = record { decisions = h.is.decisions; size = h.is.size; parts = h.is.parts; sound = h.is.sound };
  newest = h.newest;
})

pub standing_with : (d : View) (shape : Shape) (x y : Store) → IsWithNet x y → IsStanding d shape x → IsStanding d shape y
standing_with d shape x y put h = standing_as d shape x y put.rest h

pub held_with : (d : View) (shape : Shape) (x y : Store) (k : Kept) → IsWithNet x y → IsHeld d shape x k → IsHeld d shape y k
held_with d shape x y k put h = held_as d shape x y k put.rest h

-- WHAT COMMITS HAVE SENT

-- in a store in whose place another comes
pub sent_same : (o : Option Store) (x y : Store) → o ≡ Some x → messages_of y ≡ messages_of x → net_of y ≡ net_in o
sent_same o x y is same = ap (λ (n : Option Pace). option_map turning_of n) same ∙ ap net_in (sym is)

pub sent_more : (o : Option Store) (x y : Store) (f : Turning → Turning) → o ≡ Some x → net_of y ≡ option_map f (net_of x) → net_of y ≡ option_map f (net_in o)
sent_more o x y f is more = more ∙ ap (λ (z : Option Store). option_map f (net_in z)) (sym is)

pub sent_armed : (o : Option Store) (x y : Store) (pairs : List (ℕ × ℕ)) (r : Result ⊤ AllocError) → o ≡ Some x → OnOk r (net_of y ≡ option_map (with_waiting pairs) (net_of x)) → OnOk r (net_of y ≡ net_armed pairs (net_in o))
sent_armed o x y pairs (Ok done) is h = sent_more o x y (with_waiting pairs) is h
sent_armed o x y pairs (Err e) is h = tt

pub still_sent : (o : Option Store) (x y : Store) (r : Result ⊤ AllocError) → o ≡ Some x → OnErr r (net_of y ≡ net_of x) → OnErr r (net_of y ≡ net_in o)
still_sent o x y (Ok done) is h = tt
still_sent o x y (Err e) is h = h ∙ ap net_in (sym is)

pub new_armed : (d : View) (o : Option Store) (x y : Store) (u : Id) → o ≡ Some x → ((w : Id) → IsNewIn x w → IsNewIn y w) → IsNewWith d o u → IsNewWith d (Some y) u
new_armed d o x y u is still new = (new.0, still u (new_there o x u is new.1))

-- a unit of a boot that has begun is decided
pub net_decided : (x y : Store) (b : ℕ) (unit : Id) → unit.boot ≤ b → NetFits x b → IsAtRest y → ((u : Id) → is_same_id u unit ≡ false → IsNewIn x u → IsNewIn y u) → NetFits y b
net_decided x y b unit low h rests others = record { rests = rests; later = λ u k. others u (differs u k) (h.later u k) }
  where
    differs : (u : Id) → b < u.boot → is_same_id u unit ≡ false
    differs u k = let apart : (u.boot == unit.boot) ≡ false = grind (arith, nat_tests, k, low) in ap (λ (t : Bool). t && (u.seq == unit.seq)) apart
