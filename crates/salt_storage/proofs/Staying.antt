-- Calls one behind the other stay within what is asked for.
use Rattle.salt_disk.specs.Disks.{View}
use Rattle.salt_storage.specs.Staying.{IsBeyond, Setup, StaysWithin}
use Rattle.std.proofs.Common.{subst, sym, ◌∙◌}
use Rattle.std.specs.Prelude.{IsTrue, refl, ℕ, ◌<◌}

pub stays-same : (setup : Setup) (v : View) → StaysWithin setup setup v v
stays-same setup v = record {
  asked = refl;
  shape = record { count = refl; can_stop = refl; told = refl; limit = λ dev. refl };
  others = λ told dev low out bytes image. image;
}

pub stays-behind : {first mid last : Setup} {a b c : View} → StaysWithin first mid a b → StaysWithin mid last b c → StaysWithin first last a c
stays-behind g h = record {
  asked = h.asked ∙ g.asked;
  shape = record {
    count = h.shape.count ∙ g.shape.count;
    can_stop = h.shape.can_stop ∙ g.shape.can_stop;
    told = h.shape.told ∙ g.shape.told;
    limit = λ dev. h.shape.limit dev ∙ g.shape.limit dev;
  };
  others = λ told dev low out bytes image.
      g.others told dev low out bytes
      (h.others (subst IsTrue (sym g.shape.told) told) dev (subst (λ (n : ℕ). dev < n) (sym g.shape.count) low) (subst (λ (s : Setup). IsBeyond s.shape dev) (sym g.asked) out) bytes image);
}
