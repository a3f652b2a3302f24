-- A run stays within what it was asked for.
use Rattle.salt_disk.specs.Disks.{View}
use Rattle.salt_storage.specs.Staying.{IsBeyond, Setup, StaysWithin}
use Rattle.std.proofs.Common.{subst, sym}
use Rattle.std.specs.Prelude.{refl, ◌≡◌}

pub stays-as : (was is target : Setup) (d e : View) → was ≡ target → StaysWithin was is d e → StaysWithin target target d e
stays-as was is target d e same h = record {
  asked = refl;
  shape = h.shape;
  others = λ told dev low out. h.others told dev low (subst (λ (s : Setup). IsBeyond s.shape dev) (sym same) out);
}

-- it begins by another name of that
pub stays-from : {was mid is : Setup} (d e : View) → was ≡ mid → StaysWithin was is d e → StaysWithin mid is d e
stays-from {was} {mid} {is} d e same h = subst (λ (s : Setup). StaysWithin s is d e) same h
