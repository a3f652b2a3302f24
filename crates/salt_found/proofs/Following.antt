-- Moves followed one after another, and what a log says of continuations, by what is kept of it.
use Rattle.salt_ast.specs.ProgramJudgement.{program_named}
use Rattle.salt_ast.specs.declared.programs.ProgramDef.{ProgramDef}
use Rattle.salt_bytes.specs.Conts.{move_in}
use Rattle.salt_bytes.specs.Coordinator.{Decision}
use Rattle.salt_bytes.specs.declared.moves.Move.{Move}
use Rattle.salt_decisions.proofs.Moving.{moved_by_moves, then_rises}
use Rattle.salt_decisions.specs.Kept.{IsKept}
use Rattle.salt_decisions.specs.Moves.{moved_by}
use Rattle.salt_decisions.specs.Said.{move_of}
use Rattle.salt_decisions.specs.declared.kept.Kept.{Kept}
use Rattle.salt_stands.specs.Fitting.{is_cont_of, programs_defined}
use Rattle.salt_found.specs.Conts.{OpensConts, fits_header, fits_kept, fits_move, follow, followed, is_booted, open_conts_of}
use Rattle.salt_found.specs.Definitions.{reading}
use Rattle.salt_found.specs.Moves.{LeavesConts}
use Rattle.salt_found.specs.declared.error.ContErr.TheVariants.{Memory, NotMove}
use Rattle.salt_found.specs.declared.error.ContErr.{ContErr}
use Rattle.salt_model.specs.Kept.{Definition, cont_in}
use Rattle.salt_stands.specs.Coordinator.{are_sound, is_sound_cont, is_sound_decision, unit_of}
use Rattle.salt_stands.specs.CoordinatorLog.{CoordinatorLog, Told}
use Rattle.salt_stands.specs.OpenConts.{conts_of_move, do_rise, go_to, is_accepted_before, make_move, moved}
use Rattle.salt_values.specs.Id.{is_same_id}
use Rattle.salt_values.specs.declared.cont.Cont.{Cont}
use Rattle.salt_values.specs.declared.id.Id.{Id}
use Rattle.std.proofs.Common.{Bool, Err, List, None, Option, Some, [], ap, cond, drop, false, get_or, is_some, length, nat_le, refl, subst, sym, true, ℕ, ◌&&◌, ◌+◌, ◌++◌, ◌<◌, ◌≡◌, ◌∙◌, ◌∷◌}
use Rattle.std.proofs.lemmas.List.{drop_more}
use Rattle.std.specs.List.{find, list_all}
use Rattle.std.specs.Prelude.{map, ⊤, option_and_then}
use Rattle.std.specs.Bool.{then_some}

-- WHAT IS GIVEN where a test holds

pub where_true : {A : Type 0} (b : Bool) (o : Option A) → b ≡ true → option_and_then (then_some b) o ≡ o
where_true true None e = refl
where_true true (Some x) e = refl
where_true false o e = absurd cc

pub where_false : {A : Type 0} (b : Bool) (o : Option A) → b ≡ false → option_and_then (then_some b) o ≡ None
where_false false None e = refl
where_false false (Some x) e = refl
where_false true o e = absurd cc

where_both : {A : Type 0} (a b : Bool) (o : Option A) → option_and_then (then_some a) (option_and_then (then_some b) o) ≡ option_and_then (then_some (a && b)) o
where_both a b None = refl
where_both true true (Some x) = refl
where_both true false (Some x) = refl
where_both false true (Some x) = refl
where_both false false (Some x) = refl

-- MOVES

pub unfollowed : (ps : List ProgramDef) (k : Kept) (moves : List (List ℕ)) → followed ps k None moves ≡ None
unfollowed ps k [] = refl
unfollowed ps k (mv ∷ moves) = unfollowed ps k moves

unmoved : (format : ℕ) (moves : List (List ℕ)) → moved_by format None moves ≡ None
unmoved format [] = refl
unmoved format (mv ∷ moves) = unmoved format moves

abbrev all_fit : List ProgramDef → Kept → List (List ℕ) → Bool
all_fit ps k moves = list_all (λ mv. fits_move ps k (move_in k.format mv)) moves

follows_all : (ps : List ProgramDef) (k : Kept) (o : Option (List Cont)) (moves : List (List ℕ)) → followed ps k o moves ≡ option_and_then (then_some (all_fit ps k moves)) (moved_by k.format o moves)
follows_all ps k o [] = sym (where_true true o refl)
follows_all ps k None (mv ∷ moves) = unfollowed ps k moves ∙ sym (ap (option_and_then (then_some (all_fit ps k (mv ∷ moves)))) (unmoved k.format moves))
follows_all ps k (Some cs) (mv ∷ moves) =
    by (fits_move ps k (move_in k.format mv)) (option_and_then (make_move cs) (move_in k.format mv)) (λ o. follows_all ps k o moves)
  where
    by : (fits : Bool) (next : Option (List Cont)) → ((o : Option (List Cont)) → followed ps k o moves ≡ option_and_then (then_some (all_fit ps k moves)) (moved_by k.format o moves)) →
        followed ps k (option_and_then (then_some fits) next) moves ≡ option_and_then (then_some (fits && all_fit ps k moves)) (moved_by k.format next moves)
    by true next ih = ap (λ o. followed ps k o moves) (where_true true next refl) ∙ ih next
    by false next ih = ap (λ o. followed ps k o moves) (where_false false next refl) ∙ unfollowed ps k moves ∙ sym (where_false false (moved_by k.format next moves) refl)

-- WHAT IS KEPT of a log

abbrev sound_under : List ProgramDef → (boot decisions : ℕ) → Cont → Bool
sound_under ps boot decisions c = is_cont_of (program_named ps c.program) c && (nat_le c.base.boot boot && nat_le c.accepted decisions)

four : (a b x y : Bool) → ((a && b) && (x && y)) ≡ ((a && x) && (b && y))
four true true x y = refl
four true false true y = refl
four true false false y = refl
four false b x y = refl

three : (a b c d : Bool) → ((a && (b && c)) && d) ≡ (a && (b && (c && d)))
three true true c d = refl
three true false c d = refl
three false b c d = refl

module _ (ds : List Definition) (t : Told) (format : ℕ) where
  abbrev sound_move : List ℕ → Bool
  sound_move mv = list_all (is_sound_cont reading ds t) (conts_of_move (move_in format mv))

  abbrev booted : Id → Bool
  booted id = nat_le id.boot t.boot

  decisions_apart : (xs : List Decision) → list_all (is_sound_decision reading ds t format) xs ≡ (list_all booted (map unit_of xs) && list_all sound_move (map move_of xs))
  decisions_apart [] = refl
  decisions_apart (d ∷ xs) =
      ap (λ b. is_sound_decision reading ds t format d && b) (decisions_apart xs)
      ∙ four (booted d.unit) (sound_move d.move) (list_all booted (map unit_of xs)) (list_all sound_move (map move_of xs))

module _ (ps : List ProgramDef) (k : Kept) (log : CoordinatorLog) (ds : List Definition) (is : IsKept k log) (same : ps ≡ programs_defined ds) where
  fits_same : fits_kept ps k ≡ is_sound_cont reading ds log.told
  fits_same =
      ap (λ qs. sound_under qs k.boot k.decisions) same ∙ ap (λ n. sound_under (programs_defined ds) n k.decisions) is.boot ∙ ap (λ n. sound_under (programs_defined ds) log.told.boot n) is.decisions

  booted_same : is_booted k ≡ booted ds log.told log.header.format
  booted_same = ap (λ n (id : Id). nat_le id.boot n) is.boot

  all_fit_same : all_fit ps k k.moves ≡ list_all (sound_move ds log.told log.header.format) (map move_of log.told.decided)
  all_fit_same =
      ap (λ f. list_all (λ mv. list_all f (conts_of_move (move_in k.format mv))) k.moves) fits_same
      ∙ ap (λ n. list_all (sound_move ds log.told n) k.moves) is.format
      ∙ ap (list_all (sound_move ds log.told log.header.format)) is.moves

  header_same : fits_header ps k ≡ (do_rise log.header.conts && (list_all (is_sound_cont reading ds log.told) log.header.conts && list_all (booted ds log.told log.header.format) (map unit_of log.told.decided)))
  header_same =
      ap (λ cs. do_rise cs && (list_all (fits_kept ps k) cs && list_all (is_booted k) k.decided)) is.conts
      ∙ ap (λ f. do_rise log.header.conts && (list_all f log.header.conts && list_all (is_booted k) k.decided)) fits_same
      ∙ ap (λ f. do_rise log.header.conts && (list_all (is_sound_cont reading ds log.told) log.header.conts && list_all f k.decided)) booted_same
      ∙ ap (λ ids. do_rise log.header.conts && (list_all (is_sound_cont reading ds log.told) log.header.conts && list_all (booted ds log.told log.header.format) ids)) is.decided

  sound_same : (fits_header ps k && all_fit ps k k.moves) ≡ are_sound reading log ds
  sound_same =
      let rises = do_rise log.header.conts in
      let fit = list_all (is_sound_cont reading ds log.told) log.header.conts in
      let units = list_all (booted ds log.told log.header.format) (map unit_of log.told.decided) in
      let moves = list_all (sound_move ds log.told log.header.format) (map move_of log.told.decided) in
      ap (λ b. b && all_fit ps k k.moves) header_same
      ∙ ap (λ b. (rises && (fit && units)) && b) all_fit_same
      ∙ three rises fit units moves
      ∙ ap (λ b. rises && (fit && b)) (sym (decisions_apart ds log.told log.header.format log.told.decided))

  moved_same : moved_by k.format (Some k.conts) k.moves ≡ moved log.header.format (Some log.header.conts) log.told.decided
  moved_same =
      ap (λ n. moved_by n (Some k.conts) k.moves) is.format
      ∙ ap (λ cs. moved_by log.header.format (Some cs) k.moves) is.conts
      ∙ ap (moved_by log.header.format (Some log.header.conts)) is.moves
      ∙ sym (moved_by_moves log.header.format (Some log.header.conts) log.told.decided)

  pub followed_is : option_and_then (then_some (fits_header ps k)) (followed ps k (Some k.conts) k.moves) ≡ open_conts_of log ds
  followed_is =
      ap (option_and_then (then_some (fits_header ps k))) (follows_all ps k (Some k.conts) k.moves)
      ∙ where_both (fits_header ps k) (all_fit ps k k.moves) (moved_by k.format (Some k.conts) k.moves)
      ∙ ap (λ b. option_and_then (then_some b) (moved_by k.format (Some k.conts) k.moves)) sound_same
      ∙ ap (option_and_then (then_some (are_sound reading log ds))) moved_same

-- SO MANY MOVES are followed

pub record FollowedTo (ps : List ProgramDef) (k : Kept) (i : ℕ) (conts : List Cont) : Type 0 where
  pub same : followed ps k (Some k.conts) k.moves ≡ followed ps k (Some conts) (drop i k.moves)
  pub rises : do_rise conts ≡ true

module _ (ps : List ProgramDef) (k : Kept) (i : ℕ) (conts : List Cont) (so_far : FollowedTo ps k i conts) (mv : List ℕ) (low : i < length k.moves) (here : mv ≡ get_or k.moves i mv) where
  one_on : followed ps k (Some k.conts) k.moves ≡ followed ps k (follow ps k (move_in k.format mv) conts) (drop (i + 1) k.moves)
  one_on =
      so_far.same ∙ ap (followed ps k (Some conts)) (drop_more k.moves i mv low)
      ∙ ap (λ m. followed ps k (follow ps k (move_in k.format m) conts) (drop (i + 1) k.moves)) (sym here)

  pub follows_on : (more : List Cont) → follow ps k (move_in k.format mv) conts ≡ Some more → do_rise more ≡ true → FollowedTo ps k (i + 1) more
  follows_on more e rises = record { same = one_on ∙ ap (λ o. followed ps k o (drop (i + 1) k.moves)) e; rises = rises }

  pub fails_here : follow ps k (move_in k.format mv) conts ≡ None → followed ps k (Some k.conts) k.moves ≡ None
  fails_here e = one_on ∙ ap (λ o. followed ps k o (drop (i + 1) k.moves)) e ∙ unfollowed ps k (drop (i + 1) k.moves)

module _ (ps : List ProgramDef) (k : Kept) (i : ℕ) (conts : List Cont) (so_far : FollowedTo ps k i conts) where
  -- the move of an item
  pub one_fails : (items : List (List ℕ)) → items ≡ k.moves → (item : List ℕ) → i < length items → item ≡ get_or items i item → (mv : List ℕ) → mv ≡ item → (e : ContErr) (more : List Cont)
      → LeavesConts {A = ⊤} (Err e) more (follow ps k (move_in k.format mv) conts) → OpensConts (Err e) (option_and_then (then_some (fits_header ps k)) (followed ps k (Some k.conts) k.moves))
  one_fails items all item low here mv same Memory more fails = tt
  one_fails items all item low here mv same NotMove more fails =
      ap (option_and_then (then_some (fits_header ps k)))
      (fails_here ps k i conts so_far item (subst (λ ms. i < length ms) all low) (subst (λ ms. item ≡ get_or ms i item) all here) (subst (λ m. follow ps k (move_in k.format m) conts ≡ None) same fails))

-- A MOVE is followed

module _ (ps : List ProgramDef) (k : Kept) (mv : List ℕ) (conts : List Cont) (made : Move) (is : move_in k.format mv ≡ Some made) where
  follow_is : follow ps k (move_in k.format mv) conts ≡ option_and_then (then_some (fits_move ps k (Some made))) (make_move conts made)
  follow_is = ap (λ o. follow ps k o conts) is

  pub unfit : fits_move ps k (Some made) ≡ false → follow ps k (move_in k.format mv) conts ≡ None
  unfit e = follow_is ∙ where_false (fits_move ps k (Some made)) (make_move conts made) e

  pub unmade : is_some (make_move conts made) ≡ false → follow ps k (move_in k.format mv) conts ≡ None
  unmade e = follow_is ∙ by (make_move conts made) e
    where
      by : (o : Option (List Cont)) → is_some o ≡ false → option_and_then (then_some (fits_move ps k (Some made))) o ≡ None
      by None e = refl
      by (Some x) e = absurd cc

  pub made_next : (more : List Cont) → fits_move ps k (Some made) ≡ true → is_some (make_move conts made) ≡ true → do_rise conts ≡ true → ((cs : List Cont) → make_move conts made ≡ Some cs → more ≡ cs)
      → (follow ps k (move_in k.format mv) conts ≡ Some more) × (do_rise more ≡ true)
  made_next more fits may rises makes = by (make_move conts made) refl may
    where
      by : (o : Option (List Cont)) → make_move conts made ≡ o → is_some o ≡ true → (follow ps k (move_in k.format mv) conts ≡ Some more) × (do_rise more ≡ true)
      by None e s = absurd cc
      by (Some cs) e s =
          let same : cs ≡ more = sym (makes cs e) in (
            follow_is ∙ where_true (fits_move ps k (Some made)) (make_move conts made) fits ∙ e ∙ ap Some same,
            then_rises k.format mv conts more rises (ap (option_and_then (make_move conts)) is ∙ e ∙ ap Some same),
          )

pub find_cont : (b : Id) (cs : List Cont) → find (λ (c : Cont). is_same_id b c.base) cs ≡ cont_in b cs
find_cont b [] = refl
find_cont b (c ∷ cs) = ap (λ (o : Option Cont). cond (is_same_id b c.base) (Some c) o) (find_cont b cs)

-- none of the program is open
pub goes_new : (c : Cont) (cs : List Cont) (o : Option Cont) (r : Bool) → o ≡ None → o ≡ cont_in c.base cs → r ≡ list_all (is_accepted_before c) cs → r ≡ is_some (go_to c (cont_in c.base cs) cs)
goes_new c cs o r none is e = e ∙ sym (ap (λ p. is_some (go_to c p cs)) (sym is ∙ none) ∙ some_given (list_all (is_accepted_before c) cs) (cs ++ c ∷ []))
  where
    some_given : {A : Type 0} (b : Bool) (x : A) → is_some (then_some b x) ≡ b
    some_given true x = refl
    some_given false x = refl
