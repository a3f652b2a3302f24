-- How far an opening has come.
use Rattle.std.proofs.Common.{◌≡◌, ◌⊎◌, inl, inr, ℕ, ◌+◌, ◌-◌, ◌*◌, ◌<◌, ◌≤◌, ◌^◌, List, [], ◌∷◌, ◌++◌, length, take, drop, replicate, Some, None, IsTrue, Bool, true, false, refl, sym, ◌∙◌, ap, subst, arith, append_assoc, length-append, length-take, length-drop, take-append-drop}
use Rattle.std.proofs.lemmas.List.{drop_at, nil_from_length, length-replicate}
use Rattle.std.specs.Int.{w64, to_be_bytes}
use Rattle.salt_disk.specs.Disks.{View, IsSettled, KeepsAll, HasCause}
use Rattle.salt_bytes.specs.Log.{framed, spelled, entries_in}
use Rattle.salt_gatelog.specs.Log.{EndsClosed, HasClosedGate, IsLog}
use Rattle.salt_gatelog.specs.Open.{HasNoEnd, OpenEntry, OpensAs}
use Rattle.salt_gatelog.specs.declared.log.GateLog.{GateLog}
use Rattle.salt_gatelog.proofs.Bytes.{length-framed, spelled-push, length-spelled-push, entries_in-closed}
use Rattle.salt_gatelog.proofs.Opens.{no_end, cut_entry, entries_in-none, entries_in-short}
use Rattle.salt_gatelog.proofs.Blocks.{block_of_stays}
use Rattle.salt_gatelog.proofs.Frame.{log_kept}
use Rattle.salt_gatelog.specs.Block.{IsBlock, IsBlockOf}
use Rattle.salt_gatelog.specs.declared.block.Block.{Block}

-- the device begins with these entries, or a payload that it cannot hold was passed
abbrev pub InFile : List ℕ → List (List ℕ) → ℕ → Type 0
InFile device entries end = (device ≡ spelled entries ++ drop end device) ⊎ ((length device ≤ end) × (entries_in device ≡ None))

pub record Opened (d0 d : View) (dev end count : ℕ) : Type 0 where
  pub entries : List (List ℕ)
  pub size : length entries ≡ count
  pub end_is : end ≡ length (spelled entries)
  pub small : end < 2 ^ 64
  pub file : IsTrue d0.told → InFile (d0.bytes dev) entries end
  pub keeps : KeepsAll d0 d None
  pub cause : HasCause d0 d None

pub nine_each : (entries : List (List ℕ)) → 9 * length entries ≤ length (spelled entries)
nine_each [] = omega arith
nine_each (p ∷ entries) = omega (arith, nine_each entries, length-append (framed p) (spelled entries), length-framed p)

none_past : (device : List ℕ) (end : ℕ) (x : ℕ) (xs : List ℕ) → length device ≤ end → drop end device ≡ x ∷ xs → ⊥
none_past device end x xs past is = omega (arith, past, ap length is, length-drop end device)

less_or : (a b : ℕ) → (a < b) ⊎ (b ≤ a)
less_or a b = grind arith

framed_is : (size : ℕ) (payload rest more : List ℕ) → length payload ≡ size → payload ++ more ≡ rest → to_be_bytes w64 size ++ rest ≡ framed payload ++ more
unfolding framed
framed_is size payload rest more whole parts =
    ap (λ (l : List ℕ). to_be_bytes w64 size ++ l) (sym parts) ∙ ap (λ (n : ℕ). to_be_bytes w64 n ++ (payload ++ more)) (sym whole) ∙ sym (append_assoc (to_be_bytes w64 (length payload)) payload more)

-- one entry more, which the device may not hold whole
pub passed : (device : List ℕ) (entries : List (List ℕ)) (end next : ℕ) → end ≡ length (spelled entries) → end < 2 ^ 64 → next < 2 ^ 64 → InFile device entries end → OpenEntry (drop end device) end next
    → (payload : List ℕ) × ((end + 9 + length payload ≡ next) × InFile device (entries ++ payload ∷ []) next)
passed device entries end next end_is small small' (inr gone) entry = absurd (none_past device end 1 (to_be_bytes w64 entry.size ++ entry.rest) gone.0 entry.bytes_are)
passed device entries end next end_is small small' (inl file) entry = elim (less_or (length entry.rest) entry.size) [
  | inl few ↦ (
    replicate entry.size 0,
    (
      omega (arith, entry.next_is, length-replicate {A = ℕ} entry.size 0),
      inr (
        omega (arith, entry.next_is, few, ap length file, length-append (spelled entries) (drop end device), end_is, ap length entry.bytes_are, length-append (to_be_bytes w64 entry.size) entry.rest),
        entries_in-none device (omega (arith, ap length file, length-append (spelled entries) (drop end device), ap length entry.bytes_are, length-append (to_be_bytes w64 entry.size) entry.rest))
            (subst HasNoEnd (sym (file ∙ ap (λ (l : List ℕ). spelled entries ++ l) entry.bytes_are))
            (no_end entries (1 ∷ (to_be_bytes w64 entry.size ++ entry.rest)) (omega (arith, end_is)) (cut_entry entry.size entry.rest (omega (arith, entry.next_is)) few))),
      ),
    ),
  )
  | inr enough ↦
      let payload = take entry.size entry.rest in
      let whole : length payload ≡ entry.size = omega (arith, length-take entry.size entry.rest, enough) in
      let more = drop entry.size entry.rest in
      let frame : to_be_bytes w64 entry.size ++ entry.rest ≡ framed payload ++ more = framed_is entry.size payload entry.rest more whole (take-append-drop entry.size entry.rest) in
      let all : device ≡ spelled (entries ++ payload ∷ []) ++ more = file ∙ ap (λ (l : List ℕ). spelled entries ++ l) (entry.bytes_are ∙ ap (λ (l : List ℕ). 1 ∷ l) frame) ∙ sym (spelled-push entries payload more) in
      let end_next : length (spelled (entries ++ payload ∷ [])) ≡ next = omega (arith, length-spelled-push entries payload, whole, entry.next_is, end_is) in
      (payload, (omega (arith, whole, entry.next_is), inl (all ∙ ap (λ (l : List ℕ). spelled (entries ++ payload ∷ []) ++ l) (sym (ap (λ (l : List ℕ). drop next l) all ∙ drop_at (spelled (entries ++ payload ∷ [])) more next end_next)))))
]

cases_bool : (b : Bool) → (b ≡ true) ⊎ (b ≡ false)
cases_bool true = inl refl
cases_bool false = inr refl

pub goes_on : (d0 d e : View) (dev end next count : ℕ) → Opened d0 d dev end count → end < 2 ^ 64 → next < 2 ^ 64 → end + 9 ≤ next → (IsTrue d.told → OpenEntry (drop end (d.bytes dev)) end next)
    → KeepsAll d0 e None → HasCause d0 e None → Opened d0 e dev next (count + 1)
goes_on d0 d e dev end next count so_far small small' past entry keeps cause = elim (cases_bool d0.told) [
  | inl told ↦
      let here : OpenEntry (drop end (d0.bytes dev)) end next = subst (λ (f : List ℕ). OpenEntry (drop end f) end next) (so_far.keeps.kept dev (λ none. none)).bytes (entry (so_far.keeps.shape.told ∙ told)) in
      let p = passed (d0.bytes dev) so_far.entries end next so_far.end_is small small' (so_far.file told) here in
      record {
        entries = so_far.entries ++ p.0 ∷ [];
        size = omega (arith, so_far.size, length-append so_far.entries (p.0 ∷ []));
        end_is = omega (arith, p.1.0, so_far.end_is, length-spelled-push so_far.entries p.0);
        small = small';
        file = λ t. p.1.1;
        keeps = keeps;
        cause = cause;
      }
  | inr untold ↦
      let payload = replicate (next - end - 9) 0 in
      record {
        entries = so_far.entries ++ payload ∷ [];
        size = omega (arith, so_far.size, length-append so_far.entries (payload ∷ []));
        end_is = omega (arith, so_far.end_is, length-spelled-push so_far.entries payload, length-replicate {A = ℕ} (next - end - 9) 0, past);
        small = small';
        file = λ t. absurd (differ t untold);
        keeps = keeps;
        cause = cause;
      }
]
  where
    differ : IsTrue d0.told → d0.told ≡ false → ⊥
    differ t u = cc

-- so far each entry was one step, of at least nine bytes that the device has
pub record Counted (d0 d : View) (dev end count before now : ℕ) (block : Block) : Type 0 where
  pub opened : Opened d0 d dev end count
  pub steps : now ≡ before + count
  pub within : IsTrue d0.told → 9 * count ≤ length (d0.bytes dev)
  pub piece : IsBlock d dev block

pub counts_on : (d0 d e : View) (dev end next count before now after : ℕ) (block more : Block) → Counted d0 d dev end count before now block → IsBlock e dev more → after ≡ now + 1 → next < 2 ^ 64 → end + 9 ≤ next → (IsTrue d.told → OpenEntry (drop end (d.bytes dev)) end next)
    → KeepsAll d0 e None → HasCause d0 e None → Counted d0 e dev next (count + 1) before after more
counts_on d0 d e dev end next count before now after block more so_far piece one small past entry keeps cause = record {
  opened = goes_on d0 d e dev end next count so_far.opened so_far.opened.small small past entry keeps cause;
  steps = omega (arith, one, so_far.steps);
  within = λ told.
      let here : OpenEntry (drop end (d.bytes dev)) end next = entry (so_far.opened.keeps.shape.told ∙ told) in
      let same : length (d.bytes dev) ≡ length (d0.bytes dev) = ap (λ (f : List ℕ). length f) (so_far.opened.keeps.kept dev (λ none. none)).bytes in
      omega (arith, same, ap length here.bytes_are, length-append (to_be_bytes w64 here.size) here.rest, length-drop end (d.bytes dev), so_far.opened.end_is, so_far.opened.size, nine_each so_far.opened.entries);
  piece = piece;
}

module _ (d0 d e : View) (dev end count : ℕ) (so_far : Opened d0 d dev end count) (told : IsTrue d0.told) where
  same : d.bytes dev ≡ d0.bytes dev
  same = (so_far.keeps.kept dev (λ none. none)).bytes

  pub was_told : IsTrue d.told
  was_told = so_far.keeps.shape.told ∙ told

  -- a closed gate here
  pub ends_closed : end < 2 ^ 64 → HasClosedGate (drop end (d.bytes dev)) → EndsClosed so_far.entries (d0.bytes dev)
  ends_closed small gate =
      let here : HasClosedGate (drop end (d0.bytes dev)) = subst (λ (f : List ℕ). HasClosedGate (drop end f)) same gate in
      elim (so_far.file told) [
        | inl file ↦ record { gate = here.gate; rest = here.rest; is_closed = here.is_closed; bytes_are = file ∙ ap (λ (l : List ℕ). spelled so_far.entries ++ l) here.bytes_are }
        | inr gone ↦ absurd (none_past (d0.bytes dev) end here.gate here.rest gone.0 here.bytes_are)
      ]

  pub stands : end < 2 ^ 64 → HasClosedGate (drop end (d.bytes dev)) → entries_in (d0.bytes dev) ≡ Some so_far.entries
  stands small gate = entries_in-closed so_far.entries (d0.bytes dev) (omega (arith, so_far.end_is, small)) (ends_closed small gate)

  -- no gate is closed
  pub no_log : end < 2 ^ 64 → (2 ≤ length (drop end (d.bytes dev))) ⊎ (0 < count) → HasNoEnd (drop end (d.bytes dev)) → entries_in (d0.bytes dev) ≡ None
  no_log small long none =
      let here : HasNoEnd (drop end (d0.bytes dev)) = subst (λ (f : List ℕ). HasNoEnd (drop end f)) same none in
      elim (so_far.file told) [
        | inl file ↦
            let size = ap length file in
            let whole = length-append (spelled so_far.entries) (drop end (d0.bytes dev)) in
            entries_in-none (d0.bytes dev)
            (elim long [
              | inl two ↦ omega (arith, size, whole, two, ap (λ (f : List ℕ). length (drop end f)) same)
              | inr some ↦ omega (arith, size, whole, some, so_far.size, nine_each so_far.entries)
            ])
            (subst HasNoEnd (sym file) (no_end so_far.entries (drop end (d0.bytes dev)) (omega (arith, so_far.end_is, small)) here))
        | inr gone ↦ gone.1
      ]

  pub blank_short : count ≡ 0 → length (drop end (d.bytes dev)) ≤ 1 → entries_in (d0.bytes dev) ≡ Some []
  blank_short first few =
      let none : so_far.entries ≡ [] = nil_from_length so_far.entries (so_far.size ∙ first) in
      let at_zero : end ≡ 0 = so_far.end_is ∙ ap (λ (es : List (List ℕ)). length (spelled es)) none in
      entries_in-short (d0.bytes dev) (omega (arith, few, ap (λ (f : List ℕ). length (drop end f)) same, length-drop end (d0.bytes dev), at_zero))

pub first_none : (d0 d : View) (dev end count : ℕ) (so_far : Opened d0 d dev end count) → count ≡ 0 → so_far.entries ≡ []
first_none d0 d dev end count so_far first = nil_from_length so_far.entries (so_far.size ∙ first)

pub opens : (d0 d e : View) (dev end count : ℕ) (log : GateLog) → log.dev ≡ dev → log.end ≡ end → log.count ≡ count → log.next ≡ 0 → log.place ≡ 0 → IsBlockOf e log.dev log.block → Opened d0 d dev end count → IsSettled d0 dev → dev < d0.count → end + 1 < 2 ^ 64 → 0 < count → (IsTrue d.told → HasClosedGate (drop end (d.bytes dev))) → KeepsAll d0 e None → OpensAs d0 e log
opens d0 d e dev end count log dev_is end_is count_is first_is place_is block so_far settled known room some gate keeps =
    let file : IsTrue d0.told → EndsClosed so_far.entries (d0.bytes dev) = λ told. ends_closed d0 d e dev end count so_far told (omega (arith, room)) (gate (was_told d0 d e dev end count so_far told)) in
    let first : IsLog d0 log so_far.entries = record {
      known = omega (arith, known, dev_is);
      end = end_is ∙ so_far.end_is;
      room = omega (arith, room, end_is);
      count = count_is ∙ sym so_far.size;
      file = λ told. subst (λ (x : ℕ). EndsClosed so_far.entries (d0.bytes x)) (sym dev_is) (file told);
      settled = subst (λ (x : ℕ). IsSettled d0 x) (sym dev_is) settled;
      next = omega (arith, first_is);
      within = omega (arith, place_is);
      place = λ told. place_is ∙ ap (λ (k : ℕ). length (spelled (take k so_far.entries))) (sym first_is);
      block = block_of_stays e d0 log.dev log.block (sym keeps.shape.told) (sym (keeps.kept log.dev (λ none. none)).bytes) block;
    } in
    record {
      entries = so_far.entries;
      is_log = log_kept d0 e log so_far.entries keeps.shape (keeps.kept log.dev (λ none. none)) first;
      some = omega (arith, some, so_far.size);
      stands = λ told. subst (λ (x : ℕ). entries_in (d0.bytes x) ≡ Some so_far.entries) (sym dev_is) (stands d0 d e dev end count so_far told (omega (arith, room)) (gate (was_told d0 d e dev end count so_far told)));
    }
