-- How what several calls did goes together.
use Rattle.salt_disk.proofs.Coming.{come_as, none_came, none_come}
use Rattle.std.proofs.Common.{◌≡◌, ℕ, ◌≤◌, List, Option, Some, None, refl, subst, sym, ◌∙◌, arith}
use Rattle.salt_disk.specs.Disks.{View, SameShape, Shrinks, IsUnchanged, UnlessDown, KeepsBut, HasCause, HaveCome, Rose, EachImage, FullExactly, NeverFull, stops_in}
use Rattle.salt_disk.specs.declared.disks.DiskErr.{DiskErr}
use Rattle.salt_disk.specs.declared.disks.DiskErr.TheVariants.{Failed, Stopped, Full, Memory}

pub same_shape : (a : View) → SameShape a a
same_shape a = record { count = refl; can_stop = refl; told = refl; limit = λ dev. refl }

pub shape_goes_on : (a b c : View) → SameShape a b → SameShape b c → SameShape a c
shape_goes_on a b c p q = record {
  count = q.count ∙ p.count;
  can_stop = q.can_stop ∙ p.can_stop;
  told = q.told ∙ p.told;
  limit = λ dev. q.limit dev ∙ p.limit dev;
}

pub shrinks_on : (a b c : View) (dev : ℕ) → Shrinks a b dev → Shrinks b c dev → Shrinks a c dev
shrinks_on a b c dev p q image left = p image (q image left)

pub kept_on : (a b c : View) (dev : ℕ) → IsUnchanged a b dev → IsUnchanged b c dev → IsUnchanged a c dev
kept_on a b c dev p q = record { bytes = q.bytes ∙ p.bytes; images = λ image left. p.images image (q.images image left) }

pub unless_down : (answer : Option DiskErr) (P Q : Type 0) → (P → Q) → UnlessDown answer P → UnlessDown answer Q
unless_down None P Q f h = f h
unless_down (Some Failed) P Q f h = tt
unless_down (Some Stopped) P Q f h = tt
unless_down (Some (Full dev)) P Q f h = f h
unless_down (Some Memory) P Q f h = f h

-- a call that went well, and one more
pub keeps_on : (touched : ℕ → Type 0) (a b c : View) (answer : Option DiskErr) → KeepsBut touched a b None → KeepsBut touched b c answer → KeepsBut touched a c answer
keeps_on touched a b c answer p q = record {
  shape = shape_goes_on a b c p.shape q.shape;
  kept = unless_down answer ((dev : ℕ) → ¬ touched dev → IsUnchanged b c dev) ((dev : ℕ) → ¬ touched dev → IsUnchanged a c dev) (λ h dev other. kept_on a b c dev (p.kept dev other) (h dev other)) q.kept;
  images = λ dev other image left. p.images dev other image (q.images dev other image left);
}

-- more devices may be touched than are
pub keeps_wider : (few many : ℕ → Type 0) (a b : View) (answer : Option DiskErr) → ((dev : ℕ) → few dev → many dev) → KeepsBut few a b answer → KeepsBut many a b answer
keeps_wider few many a b answer wider p = record {
  shape = p.shape;
  kept = unless_down answer ((dev : ℕ) → ¬ few dev → IsUnchanged a b dev) ((dev : ℕ) → ¬ many dev → IsUnchanged a b dev) (λ h dev other. h dev (λ f. other (wider dev f))) p.kept;
  images = λ dev other. p.images dev (λ f. other (wider dev f));
}

pub cause_on : (a b c : View) (answer : Option DiskErr) → HasCause a b None → HasCause b c answer → HasCause a c answer
cause_on a b c answer p q = record {
  later = omega (arith, p.later, q.later);
  failed = λ is. omega (arith, p.later, q.failed is);
  stops = subst (λ (armed : List (ℕ × ℕ)). HaveCome (stops_in answer) armed c.armed) (none_came a.armed b.armed p.stops) q.stops;
}

-- a call at which no stop has come
pub cause_unstopped : (a b : View) (answer : Option DiskErr) → stops_in answer ≡ 0 → a.faults ≤ b.faults → (answer ≡ Some Failed → Rose a.faults b.faults) → b.armed ≡ a.armed → HasCause a b answer
cause_unstopped a b answer unstopped later failed same = record {
  later = later;
  failed = failed;
  stops = come_as 0 (stops_in answer) a.armed b.armed (sym unstopped) (none_come a.armed b.armed same);
}

-- no call at all
pub cause_none : (a : View) → HasCause a a None
cause_none a = record { later = omega arith; failed = λ is. cc; stops = none_come a.armed a.armed refl }

-- with an answer that tells of no stop and of no fault
pub cause_as : (a b : View) (answer : Option DiskErr) → stops_in answer ≡ 0 → (answer ≡ Some Failed → ⊥) → HasCause a b None → HasCause a b answer
cause_as a b answer unstopped unfailed p = cause_unstopped a b answer unstopped p.later (λ is. absurd (unfailed is)) (none_came a.armed b.armed p.stops)

pub cause_memory : (a b : View) → HasCause a b None → HasCause a b (Some Memory)
cause_memory a b p = cause_as a b (Some Memory) refl (λ is. cc) p

-- what holds of each image goes on where images only fall away
pub each_shrinks : (a b : View) (dev : ℕ) (P : List ℕ → Type 0) → SameShape a b → Shrinks a b dev → EachImage a dev P → EachImage b dev P
each_shrinks a b dev P shape shrinks each told image left = each (sym shape.told ∙ told) image (shrinks image left)

-- a call that can't be full ends within the limit, as an earlier one did
pub full_never : (dev limit end : ℕ) (e : DiskErr) → NeverFull (Some e) → end ≤ limit → FullExactly dev limit end (Some e)
full_never dev limit end Failed never fits = fits
full_never dev limit end Stopped never fits = fits
full_never dev limit end (Full n) never fits = absurd never
full_never dev limit end Memory never fits = tt

-- nor can a shorter write
pub full_later : (dev limit limit' end end' : ℕ) (e : DiskErr) → FullExactly dev limit' end' (Some e) → limit' ≡ limit → end' ≤ limit → end ≤ limit → FullExactly dev limit end (Some e)
full_later dev limit limit' end end' Failed later same short fits = fits
full_later dev limit limit' end end' Stopped later same short fits = fits
full_later dev limit limit' end end' (Full n) later same short fits = absurd (omega (arith, later.1))
full_later dev limit limit' end end' Memory later same short fits = tt
