-- The verdict where the lines that are read end.
use Rattle.law_texts.specs.EventLines.{Inline}
use Rattle.salt_audit.proofs.Clashing.{one_line}
use Rattle.salt_audit.proofs.OneMore.{printable_more}
use Rattle.salt_audit.specs.Retelling.{retold}
use Rattle.salt_audit.specs.Verdicts.{found_in, sound}
use Rattle.salt_audit.specs.Transcripts.{BeginsWith, IsLeft, IsVerdict, SoFar, all_told, breaks, is_unformed, lines_so_far, no_text, tables_told, text_so_far}
use Rattle.salt_audit.specs.declared.verdict.Law.{Law}
use Rattle.salt_audit.specs.declared.verdict.Verdict.TheVariants.{Broken, NotText, Unformed, Yes}
use Rattle.salt_events.specs.Lines.{GoesOn}
use Rattle.salt_model.specs.Printable.{IsPrintable}
use Rattle.salt_model.specs.declared.events.Event.{Event}
use Rattle.salt_model.specs.declared.shown.Item.{Item}
use Rattle.salt_transcript.proofs.Cutting.{none_in_front}
use Rattle.salt_transcript.proofs.Longest.{Laws, before_amiss, longest}
use Rattle.salt_transcript.proofs.Stopping.{stops_at}
use Rattle.salt_transcript.specs.Fronts.{GoesOnNowhere}
use Rattle.salt_transcript.specs.Reading.{EndsBroken, EndsUnformed, GoesNowhere, HasRead, is_all_told}
use Rattle.salt_transcript.specs.Stopping.{IsSoundTo, Settles}
use Rattle.salt_transcript.specs.declared.reader.Reader.{Reader}
use Rattle.salt_values.specs.declared.id.Id.{Id}
use Rattle.std.proofs.Common.{List, [], ap, append_assoc, arith, false, length, refl, subst, suc, sym, true, ℕ, ◌+◌, ◌++◌, ◌<◌, ◌^◌, ◌∙◌, ◌∷◌, ◌≡◌}
use Rattle.std.proofs.lemmas.List.{length-append}

begun : (r : Reader) (s : SoFar) (bytes rest : List ℕ) → HasRead r s → bytes ≡ text_so_far s ++ rest → BeginsWith bytes s rest
begun r s bytes rest h e = record { text = e; events = h.printable; items = h.showable }

left_unless : (items : List Item) (rest : List ℕ) → is_all_told items rest ≡ false → IsLeft items rest
left_unless [] [] e = absurd cc
left_unless [] (b ∷ rest) e = tt
left_unless (i ∷ items) rest e = tt

none_left : (items : List Item) (rest : List ℕ) → is_all_told items rest ≡ true → (items ≡ []) × (rest ≡ [])
none_left [] [] e = (refl, refl)
none_left [] (b ∷ rest) e = absurd cc
none_left (i ∷ items) rest e = absurd cc

-- ALL IS TOLD

pub whole : (r : Reader) (s : SoFar) (bytes rest : List ℕ) → HasRead r s → bytes ≡ text_so_far s ++ rest → is_all_told r.items rest ≡ true → IsVerdict bytes (Yes r.events)
whole r s bytes rest h e told =
    let none = none_left r.items rest told in
    let b = begun r s bytes rest h e in
    let items : s.items ≡ [] = sym h.items ∙ none.0 in
    let at : BeginsWith bytes (record { story = s.story; items = [] }) [] =
    subst (λ (l : List ℕ). BeginsWith bytes (record { story = s.story; items = [] }) l) none.1
    (subst (λ (is : List Item). BeginsWith bytes (record { story = s.story; items = is }) rest) items b) in
    subst (λ (n : ℕ). IsVerdict bytes (Yes n)) (sym h.events) (all_told s.story at h.told.found)

-- A LINE THAT IS NO TEXT

numbered : (bytes : List ℕ) (m n : ℕ) → n ≡ m → IsVerdict bytes (NotText (suc m)) → IsVerdict bytes (NotText (n + 1))
numbered bytes m n e f = let same : suc m ≡ n + 1 = omega (arith, e) in subst (λ (k : ℕ). IsVerdict bytes (NotText k)) same f

-- as many items as lines at most
few : (n : ℕ) (s : SoFar) → n ≡ lines_so_far s → n < 2 ^ 64 → length s.items < 2 ^ 64
few n s e h = omega (arith, e, h)

module _ (laws : Laws) (r : Reader) (s : SoFar) (bytes : List ℕ) (h : HasRead r s) where
  -- no line ends in what is left
  pub unended : (rest : List ℕ) → Inline rest → bytes ≡ text_so_far s ++ rest → is_all_told r.items rest ≡ false → r.lines < 2 ^ 64 → IsVerdict bytes (NotText (r.lines + 1))
  unended rest inline e told short =
      let b = begun r s bytes rest h e in
      let left : IsLeft s.items rest = left_unless s.items rest (ap (λ (is : List Item). is_all_told is rest) (sym h.items) ∙ told) in
      let nowhere : GoesOnNowhere (tables_told s.story) s.items rest = λ line more after t front g. none_in_front line more rest inline front in
      numbered bytes (lines_so_far s) r.lines h.lines (no_text s rest b h.told.found left (longest laws bytes s rest (few r.lines s h.lines short) h.told.found b nowhere))

  line_left : (items : List Item) (line more : List ℕ) → IsLeft items (line ++ (10 ∷ more))
  line_left [] [] more = tt
  line_left [] (b ∷ line) more = tt
  line_left (i ∷ items) line more = tt

  -- the line in front goes nowhere
  pub no_line : (t : Reader) (line more : List ℕ) → GoesNowhere t s line → t.lines < 2 ^ 64 → Inline line → bytes ≡ text_so_far s ++ (line ++ (10 ∷ more)) →
      Settles bytes more (NotText (t.lines + 1))
  no_line t line more g short inline e =
      let rest = line ++ (10 ∷ more) in
      let b = begun r s bytes rest h e in
      let nowhere : GoesOnNowhere (tables_told s.story) s.items rest = λ other behind after told front goes.
      g.nowhere after told
      (subst (λ (l : List ℕ). GoesOn (tables_told s.story) s.items l (after, told)) (sym (one_line line other more behind inline front.inline front.text).0) goes) in
      let last = longest laws bytes s rest (few t.lines s g.lines short) h.told.found b nowhere in
      record {
        is = numbered bytes (lines_so_far s) t.lines g.lines (no_text s rest b h.told.found (line_left s.items line more) last);
        stops = λ behind to.
            let no_less = last to.so_far (to.line ++ behind) to.begins in
            let parts = length-append line (10 ∷ more) in
            stops_at (text_so_far s ++ line) more (text_so_far to.so_far) to.line behind (append_assoc (text_so_far s) line (10 ∷ more) ∙ sym e ∙ to.begins.text) to.inline
            (omega (arith, no_less, parts));
      }

-- AN EVENT THAT IS AMISS

-- behind what is read
begun_more : (r : Reader) (s : SoFar) (event : Event) (line bytes more : List ℕ) → HasRead r s → IsPrintable (tables_told s.story) event →
    text_so_far (record { story = s.story ++ event ∷ []; items = [] }) ≡ text_so_far s ++ (line ++ 10 ∷ []) → bytes ≡ text_so_far s ++ (line ++ (10 ∷ more)) →
    BeginsWith bytes (record { story = s.story ++ event ∷ []; items = [] }) more
begun_more r s event line bytes more h printable text e =
    let all = e
    ∙ ap (λ (l : List ℕ). text_so_far s ++ l) (sym (append_assoc line (10 ∷ []) more))
    ∙ sym (append_assoc (text_so_far s) (line ++ 10 ∷ []) more)
    ∙ ap (λ (l : List ℕ). l ++ more) (sym text) in
    record { text = all; events = printable_more (retold []) s.story event h.printable printable; items = tt }

-- and so far bytes are sound no more
stops_behind : (laws : Laws) (s : SoFar) (event : Event) (line bytes more behind : List ℕ) → BeginsWith bytes (record { story = s.story ++ event ∷ []; items = [] }) more →
    (found_in (s.story ++ event ∷ []) ≡ sound → ⊥) → bytes ≡ text_so_far s ++ (line ++ (10 ∷ more)) → IsSoundTo bytes behind → length more < length behind
stops_behind laws s event line bytes more behind g amiss e to =
    let before = before_amiss laws bytes (record { story = s.story ++ event ∷ []; items = [] }) more amiss g to.so_far (to.line ++ behind) to.found to.begins in
    stops_at (text_so_far s ++ line) more (text_so_far to.so_far) to.line behind (append_assoc (text_so_far s) line (10 ∷ more) ∙ sym e ∙ to.begins.text) to.inline before

pub unfit : (laws : Laws) (r t : Reader) (s : SoFar) (line bytes more : List ℕ) → HasRead r s → EndsUnformed t s line → bytes ≡ text_so_far s ++ (line ++ (10 ∷ more)) →
    Settles bytes more (Unformed (t.events + 1))
unfit laws r t s line bytes more h u e =
    let same : suc (length s.story) ≡ t.events + 1 = omega (arith, u.events) in
    let begins = begun_more r s u.event line bytes more h u.printable u.text e in
    record {
      is = subst (λ (n : ℕ). IsVerdict bytes (Unformed n)) same (is_unformed s.story u.event more begins u.found);
      stops = λ behind. stops_behind laws s u.event line bytes more behind begins (λ is. let other = sym is ∙ u.found in cc) e;
    }

pub broken_by_line : (laws : Laws) (r t : Reader) (s : SoFar) (line bytes more : List ℕ) (law : Law) (unit : Id) → HasRead r s → EndsBroken t s line law unit →
    bytes ≡ text_so_far s ++ (line ++ (10 ∷ more)) → Settles bytes more (Broken law unit (t.events + 1))
broken_by_line laws r t s line bytes more law unit h u e =
    let same : suc (length s.story) ≡ t.events + 1 = omega (arith, u.events) in
    let begins = begun_more r s u.event line bytes more h u.printable u.text e in
    record {
      is = subst (λ (n : ℕ). IsVerdict bytes (Broken law unit n)) same (breaks s.story u.event more law unit begins u.found);
      stops = λ behind. stops_behind laws s u.event line bytes more behind begins (λ is. let other = sym is ∙ u.found in cc) e;
    }
