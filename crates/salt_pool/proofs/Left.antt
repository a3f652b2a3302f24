-- What writes of pages leave of a device: sides to which none goes, and how long it is.
use Rattle.salt_bytes.specs.Page.{page_length}
use Rattle.salt_checkpoint.proofs.Named.{written_front}
use Rattle.salt_checkpoint.proofs.Places.{places_apart}
use Rattle.salt_checkpoint.proofs.Torn.{length-written, side_same}
use Rattle.salt_checkpoint.specs.Sides.{all_written}
use Rattle.salt_disk.specs.Disks.{FullExactly, FullOnly, IfNothingDone, Shrinks, Tears, UnlessDown, View, written}
use Rattle.salt_disk.specs.declared.disks.DiskErr.TheVariants.{Failed, Full, Memory, Stopped}
use Rattle.salt_disk.specs.declared.disks.DiskErr.{DiskErr}
use Rattle.salt_pool.proofs.Numbers.{true_is_not_false}
use Rattle.salt_pool.specs.Dirtied.{goes_to}
use Rattle.salt_pool.specs.Flushing.{IsLeftBy, KeepsSides, SameSides, place_of}
use Rattle.salt_pool.specs.declared.places.Dirty.{Dirty}
use Rattle.std.proofs.Common.{Bool, List, None, Option, Some, [], ap, append_assoc, arith, drop, false, inl, length, nat_eq, refl, subst, sym, take, true, ℕ, ◌+◌, ◌++◌, ◌-◌, ◌||◌, ◌<◌, ◌≡◌, ◌≤◌, ◌∙◌, ◌∷◌}
use Rattle.std.proofs.lemmas.Bool.Decides.{Decides-eqb}
use Rattle.std.proofs.lemmas.List.{drop_at, length-take-le, take_at}
use Rattle.std.specs.Prelude.{IsTrue, max, ◌&&◌}

-- a call that answers an error, and has done nothing unless the disks are down
pub unless_nothing : (e : DiskErr) (P Q : Type 0) → (P → Q) → IfNothingDone (Some e) P → UnlessDown (Some e) Q
unless_nothing Failed P Q f h = tt
unless_nothing Stopped P Q f h = tt
unless_nothing (Full n) P Q f h = f h
unless_nothing Memory P Q f h = f h

-- OF BYTES

pub same_refl : (len : ℕ) (ds : List Dirty) (b : List ℕ) → SameSides len ds b b
same_refl len ds b = record { each = λ page side low within clean. refl }

-- what is written behind the end leaves each side that stands before it
pub same_behind : (len at n : ℕ) (ds : List Dirty) (old new : List ℕ) → len ≤ at → take at new ≡ take at old → drop (at + n) new ≡ drop (at + n) old → SameSides len ds old new
same_behind len at n ds old new high before after = record { each = λ page side low within clean. side_same page side at n old new (inl (omega (arith, within, high))) before after }

goes : (d : Dirty) (page side : ℕ) → goes_to (d ∷ []) page side ≡ false → (d.page ≡ page) × (d.side ≡ side) → ⊥
goes d page side clean same =
    let first : nat_eq d.page page ≡ true = (Decides-eqb d.page page).1 same.0 in
    let second : nat_eq d.side side ≡ true = (Decides-eqb d.side side).1 same.1 in
    let whole : goes_to (d ∷ []) page side ≡ true = λ i. (first i && second i) || false in
    true_is_not_false (sym whole ∙ clean)

-- a page on its side leaves all others
pub same_written : (len : ℕ) (d : Dirty) (old new : List ℕ) → d.side ≤ 1 → take (place_of d) new ≡ take (place_of d) old → drop (place_of d + page_length) new ≡ drop (place_of d + page_length) old → SameSides len (d ∷ []) old new
same_written len d old new own before after = record { each = λ page side low within clean. side_same page side (place_of d) page_length old new (places_apart d.page d.side page side own low (goes d page side clean)) before after }

-- some of these pages, and then the rest
pub same_on : (len len' : ℕ) (us vs ws : List Dirty) (a b c : List ℕ) → len ≤ len' → ((page side : ℕ) → goes_to ws page side ≡ false → (goes_to us page side ≡ false) × (goes_to vs page side ≡ false)) → SameSides len us a b → SameSides len' vs b c → SameSides len ws a c
same_on len len' us vs ws a b c later split p q = record { each = λ page side low within clean. let parts = split page side clean in q.each page side low (omega (arith, within, later)) parts.1 ∙ p.each page side low within parts.0 }

-- some of them alone
pub same_before : (len : ℕ) (us ws : List Dirty) (a b : List ℕ) → ((page side : ℕ) → goes_to ws page side ≡ false → goes_to us page side ≡ false) → SameSides len us a b → SameSides len ws a b
same_before len us ws a b part p = record { each = λ page side low within clean. p.each page side low within (part page side clean) }

-- of one page and more
pub goes_split : (d : Dirty) (ds : List Dirty) (page side : ℕ) → goes_to (d ∷ ds) page side ≡ false → (goes_to (d ∷ []) page side ≡ false) × (goes_to ds page side ≡ false)
goes_split d ds page side clean = by (nat_eq d.page page && nat_eq d.side side) (goes_to ds page side) clean
  where
    by : (a b : Bool) → (a || b) ≡ false → ((a || false) ≡ false) × (b ≡ false)
    by true b h = absurd (true_is_not_false h)
    by false b h = (refl, h)

pub written_on_side : (old : List ℕ) (at : ℕ) (bytes : List ℕ) → at ≤ length old → length bytes ≡ page_length → take page_length (drop at (written old at bytes)) ≡ bytes
written_on_side old at bytes place size =
    let back = drop (at + length bytes) old in
    ap (λ (l : List ℕ). take page_length l) (ap (λ (l : List ℕ). drop at l) (append_assoc (take at old) bytes back) ∙ drop_at (take at old) (bytes ++ back) at (length-take-le at old place))
    ∙ take_at bytes back page_length size

-- OF IMAGES

pub keeps_none : (len : ℕ) (ds : List Dirty) (a b : View) (dev : ℕ) → Shrinks a b dev → KeepsSides len ds a b dev
keeps_none len ds a b dev shrinks c left = (c, shrinks c left, same_refl len ds c)

pub keeps_zeros : (len n : ℕ) (a b : View) (dev : ℕ) → Tears a b dev len n → KeepsSides len [] a b dev
keeps_zeros len n a b dev tears c left =
    let from = tears c left in
    (from.0, from.1, same_behind len len n [] from.0 c (omega arith) from.2.before from.2.after)

pub keeps_page : (len n : ℕ) (d : Dirty) (a b : View) (dev : ℕ) → d.side ≤ 1 → n ≡ page_length → Tears a b dev (place_of d) n → KeepsSides len (d ∷ []) a b dev
keeps_page len n d a b dev own size tears c left =
    let from = tears c left in
    (from.0, from.1, same_written len d from.0 c own from.2.before (subst (λ k. drop (place_of d + k) c ≡ drop (place_of d + k) from.0) size from.2.after))

pub keeps_on : (len len' : ℕ) (us vs ws : List Dirty) (a b c : View) (dev : ℕ) → len ≤ len' → ((page side : ℕ) → goes_to ws page side ≡ false → (goes_to us page side ≡ false) × (goes_to vs page side ≡ false)) → KeepsSides len us a b dev → KeepsSides len' vs b c dev → KeepsSides len ws a c dev
keeps_on len len' us vs ws a b c dev later split p q image left =
    let second = q image left in
    let first = p second.0 second.1 in
    (first.0, first.1, same_on len len' us vs ws first.0 second.0 image later split first.2 second.2)

pub keeps_before : (len : ℕ) (us ws : List Dirty) (a b : View) (dev : ℕ) → ((page side : ℕ) → goes_to ws page side ≡ false → goes_to us page side ≡ false) → KeepsSides len us a b dev → KeepsSides len ws a b dev
keeps_before len us ws a b dev part p image left =
    let from = p image left in
    (from.0, from.1, same_before len us ws from.0 image part from.2)

-- OF WHAT A READ GIVES

-- no byte was written
pub left_same : (len : ℕ) (ds : List Dirty) (a b : View) (dev now : ℕ) → (IsTrue a.told → now ≡ length (a.bytes dev)) → b.bytes dev ≡ a.bytes dev → IsLeftBy len ds a b dev now
left_same len ds a b dev now is same = record {
  ends = λ told. is told ∙ ap (λ (l : List ℕ). length l) (sym same);
  sides = λ told. subst (SameSides len ds (a.bytes dev)) (sym same) (same_refl len ds (a.bytes dev));
}

pub left_zeros : (len at : ℕ) (bytes : List ℕ) (a b : View) (dev : ℕ) → len < at → length bytes ≡ at - len → (IsTrue a.told → len ≡ length (a.bytes dev)) → (IsTrue a.told → b.bytes dev ≡ all_written (record { at = len; bytes = bytes } ∷ []) (a.bytes dev)) → IsLeftBy len [] a b dev at
left_zeros len at bytes a b dev below size is wrote = record {
  ends = λ told.
      let place : len ≤ length (a.bytes dev) = omega (arith, is told) in
      let long : length (written (a.bytes dev) len bytes) ≡ max (length (a.bytes dev)) (len + length bytes) = length-written (a.bytes dev) len bytes place in
      let whole : length (b.bytes dev) ≡ length (written (a.bytes dev) len bytes) = ap (λ (l : List ℕ). length l) (wrote told) in
      omega (arith, whole, long, size, is told, below);
  sides = λ told.
      let front = written_front (a.bytes dev) len bytes (omega (arith, is told)) in
      subst (SameSides len [] (a.bytes dev)) (sym (wrote told)) (same_behind len len (length bytes) [] (a.bytes dev) (written (a.bytes dev) len bytes) (omega arith) front.0 front.1);
}

pub left_page : (len now : ℕ) (d : Dirty) (bytes : List ℕ) (a b : View) (dev : ℕ) → d.side ≤ 1 → length bytes ≡ page_length → (IsTrue a.told → place_of d ≤ length (a.bytes dev)) → (IsTrue a.told → b.bytes dev ≡ all_written (record { at = place_of d; bytes = bytes } ∷ []) (a.bytes dev)) → (IsTrue a.told → now ≡ max (length (a.bytes dev)) (place_of d + page_length)) → IsLeftBy len (d ∷ []) a b dev now
left_page len now d bytes a b dev own size place wrote is = record {
  ends = λ told.
      let long : length (written (a.bytes dev) (place_of d) bytes) ≡ max (length (a.bytes dev)) (place_of d + length bytes) = length-written (a.bytes dev) (place_of d) bytes (place told) in
      is told ∙ ap (λ k. max (length (a.bytes dev)) (place_of d + k)) (sym size) ∙ sym long ∙ ap (λ (l : List ℕ). length l) (sym (wrote told));
  sides = λ told.
      let new = written (a.bytes dev) (place_of d) bytes in
      let front = written_front (a.bytes dev) (place_of d) bytes (place told) in
      subst (SameSides len (d ∷ []) (a.bytes dev)) (sym (wrote told)) (same_written len d (a.bytes dev) new own front.0 (subst (λ k. drop (place_of d + k) new ≡ drop (place_of d + k) (a.bytes dev)) size front.1));
}

pub left_on : (len len' now : ℕ) (us vs ws : List Dirty) (a b c : View) (dev : ℕ) → len ≤ len' → b.told ≡ a.told → ((page side : ℕ) → goes_to ws page side ≡ false → (goes_to us page side ≡ false) × (goes_to vs page side ≡ false)) → IsLeftBy len us a b dev len' → IsLeftBy len' vs b c dev now → IsLeftBy len ws a c dev now
left_on len len' now us vs ws a b c dev later same split p q = record {
  ends = λ told. q.ends (same ∙ told);
  sides = λ told. same_on len len' us vs ws (a.bytes dev) (b.bytes dev) (c.bytes dev) later split (p.sides told) (q.sides (same ∙ told));
}

pub left_before : (len now : ℕ) (us ws : List Dirty) (a b : View) (dev : ℕ) → ((page side : ℕ) → goes_to ws page side ≡ false → goes_to us page side ≡ false) → IsLeftBy len us a b dev now → IsLeftBy len ws a b dev now
left_before len now us ws a b dev part p = record { ends = p.ends; sides = λ told. same_before len us ws (a.bytes dev) (b.bytes dev) part (p.sides told) }

-- WHERE IT IS FULL

pub full_within : (dev limit limit' end end' : ℕ) (answer : Option DiskErr) → limit' ≡ limit → end' ≤ end → FullOnly dev limit' end' answer → FullOnly dev limit end answer
full_within dev limit limit' end end' None same low h = tt
full_within dev limit limit' end end' (Some Failed) same low h = tt
full_within dev limit limit' end end' (Some Stopped) same low h = tt
full_within dev limit limit' end end' (Some (Full n)) same low h = (h.0, omega (arith, same, low, h.1))
full_within dev limit limit' end end' (Some Memory) same low h = tt

pub full_only : (dev limit limit' end end' : ℕ) (e : DiskErr) → limit' ≡ limit → end' ≤ end → FullExactly dev limit' end' (Some e) → FullOnly dev limit end (Some e)
full_only dev limit limit' end end' Failed same low h = tt
full_only dev limit limit' end end' Stopped same low h = tt
full_only dev limit limit' end end' (Full n) same low h = (h.0, omega (arith, same, low, h.1))
full_only dev limit limit' end end' Memory same low h = tt
