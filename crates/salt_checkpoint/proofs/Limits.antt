-- Which limit is passed, where writes end with `Full`.
use Rattle.salt_checkpoint.specs.Checkpoints.{FullAt}
use Rattle.salt_checkpoint.specs.Sides.{writes_end}
use Rattle.salt_checkpoint.specs.declared.writes.Write.{Write}
use Rattle.salt_disk.specs.Disks.{FullExactly, FullOnly, NeverFull, SameShape, View}
use Rattle.salt_disk.specs.declared.disks.DiskErr.TheVariants.{Failed, Full, Memory, Stopped}
use Rattle.salt_disk.specs.declared.disks.DiskErr.{DiskErr}
use Rattle.std.proofs.Common.{List, None, Option, Some, ap, arith, inl, inr, subst, ℕ, ◌+◌, ◌≡◌, ◌≤◌, ◌∙◌}

pub full_within : (dev limit limit' end end' : ℕ) (answer : Option DiskErr) → limit' ≡ limit → end' ≤ end → FullOnly dev limit' end' answer → FullOnly dev limit end answer
full_within dev limit limit' end end' None same low h = tt
full_within dev limit limit' end end' (Some Failed) same low h = tt
full_within dev limit limit' end end' (Some Stopped) same low h = tt
full_within dev limit limit' end end' (Some (Full n)) same low h = (h.0, omega (arith, same, low, h.1))
full_within dev limit limit' end end' (Some Memory) same low h = tt

pub full_only : (dev limit end end' : ℕ) (e : DiskErr) → end' ≤ end → FullExactly dev limit end' (Some e) → FullOnly dev limit end (Some e)
full_only dev limit end end' Failed low h = tt
full_only dev limit end end' Stopped low h = tt
full_only dev limit end end' (Full n) low h = (h.0, omega (arith, low, h.1))
full_only dev limit end end' Memory low h = tt

-- which device it is
pub full_at : (dev limit end n : ℕ) (e : DiskErr) → e ≡ Full n → FullOnly dev limit end (Some e) → n ≡ dev
full_at dev limit end n e is h = (subst (λ k. FullOnly dev limit end (Some k)) is h).0

pub not_full : (n : ℕ) (e : DiskErr) → e ≡ Full n → NeverFull (Some e) → ⊥
not_full n e is h = subst (λ k. NeverFull (Some k)) is h

module _ (d : View) (pages other : ℕ) (ws : List Write) (header : ℕ) where
  -- pages are written
  pub full_pages : (dev : ℕ) (error : DiskErr) → dev ≡ pages → FullOnly dev (d.limit dev) (writes_end ws) (Some error) → FullAt d pages other ws header (Some error)
  full_pages dev Failed at h = tt
  full_pages dev Stopped at h = tt
  full_pages dev Memory at h = tt
  full_pages dev (Full n) at h = inl (h.0 ∙ at, omega (arith, h.1, ap d.limit h.0))

  -- they are synced
  pub full_never : (error : DiskErr) → NeverFull (Some error) → FullAt d pages other ws header (Some error)
  full_never Failed h = tt
  full_never Stopped h = tt
  full_never Memory h = tt
  full_never (Full n) h = absurd h

  -- the other log is begun
  pub full_other : (e : View) (dev end : ℕ) (error : DiskErr) → SameShape d e → dev ≡ other → end ≤ 10 + header → FullOnly dev (e.limit dev) end (Some error) → FullAt d pages other ws header (Some error)
  full_other e dev end Failed shape at low h = tt
  full_other e dev end Stopped shape at low h = tt
  full_other e dev end Memory shape at low h = tt
  full_other e dev end (Full n) shape at low h = inr (h.0 ∙ at, omega (arith, h.1, ap d.limit h.0, shape.limit dev, low))
