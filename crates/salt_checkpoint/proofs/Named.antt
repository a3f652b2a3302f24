-- Pages whose named sides are the same are read the same.
use Rattle.salt_checkpoint.proofs.Torn.{named_on, named_refl, names_same}
use Rattle.salt_checkpoint.specs.Sides.{LeaveNoGap, NamedSame, SpareNamed, Spares, all_written, side_bytes}
use Rattle.salt_checkpoint.specs.declared.writes.Write.{Write}
use Rattle.salt_disk.specs.Disks.{written}
use Rattle.salt_checkpoint.proofs.Torn.{length-written}
use Rattle.salt_stands.proofs.PageReads.{SamePages, no_page, one_page, reads_same_pages}
use Rattle.salt_stands.specs.Pieces.{PartView, ReadsSamePages}
use Rattle.std.proofs.Common.{List, Some, [], ap, append_assoc, arith, drop, length, length-append, refl, subst, suc, sym, take, ℕ, ◌+◌, ◌++◌, ◌≡◌, ◌≤◌, ◌∙◌, ◌∷◌}
use Rattle.std.proofs.lemmas.List.{drop_at, length-take-le, take_at}
use Rattle.std.specs.Prelude.{slice_get}

-- from page number k on
pages_from : (k : ℕ) (sides : List ℕ) (old new : List ℕ) → ((i side : ℕ) → slice_get sides i ≡ Some side → side_bytes new (k + i) side ≡ side_bytes old (k + i) side) → SamePages old new k sides
pages_from k [] old new h = no_page
pages_from k (side ∷ sides) old new h =
    one_page (subst (λ (n : ℕ). side_bytes new n side ≡ side_bytes old n side) (omega arith) (h 0 side refl))
    (pages_from (suc k) sides old new (λ i s e. subst (λ (n : ℕ). side_bytes new n s ≡ side_bytes old n s) (omega arith) (h (suc i) s e)))

pub named_reads : (x : PartView) (old new : List ℕ) → NamedSame x.log.header.sides old new → ReadsSamePages x old new
named_reads x old new same = reads_same_pages x old new (pages_from 0 x.log.header.sides old new (λ i side e. subst (λ (n : ℕ). side_bytes new n side ≡ side_bytes old n side) (omega arith) (same.each i side e)))

-- WRITES

-- what stands before it, and behind it
pub written_front : (old : List ℕ) (at : ℕ) (bytes : List ℕ) → at ≤ length old → (take at (written old at bytes) ≡ take at old) × (drop (at + length bytes) (written old at bytes) ≡ drop (at + length bytes) old)
written_front old at bytes within =
    let back = drop (at + length bytes) old in
    let front : length (take at old) ≡ at = length-take-le at old within in
    (ap (λ (l : List ℕ). take at l) (append_assoc (take at old) bytes back) ∙ take_at (take at old) (bytes ++ back) at front, drop_at (take at old ++ bytes) back (at + length bytes) (omega (arith, length-append (take at old) bytes, front)))

written_named : (sides old : List ℕ) (at : ℕ) (bytes : List ℕ) → at ≤ length old → Spares sides at (length bytes) → NamedSame sides old (written old at bytes)
written_named sides old at bytes within spares =
    let front = written_front old at bytes within in
    names_same sides at (length bytes) old (written old at bytes) spares front.0 front.1

pub all_named : (sides : List ℕ) (ws : List Write) (bytes : List ℕ) → LeaveNoGap (length bytes) ws → SpareNamed sides ws → NamedSame sides bytes (all_written ws bytes)
all_named sides [] bytes place spare = named_refl sides bytes
all_named sides (w ∷ ws) bytes place spare =
    let next = written bytes w.at w.bytes in
    named_on sides bytes next (all_written ws next) (written_named sides bytes w.at w.bytes place.0 spare.0)
    (all_named sides ws next (subst (λ (n : ℕ). LeaveNoGap n ws) (sym (length-written bytes w.at w.bytes place.0)) place.1) spare.1)
