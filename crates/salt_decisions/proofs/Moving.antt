-- Moves made one after another, from continuations that rise; and which continuations are open behind them.
use Rattle.salt_bytes.specs.Conts.{move_in}
use Rattle.salt_bytes.specs.Coordinator.{Decision}
use Rattle.salt_bytes.specs.declared.moves.Move.{Move}
use Rattle.salt_decisions.specs.Decisions.{AreOpen, decided, snapshotted}
use Rattle.salt_decisions.specs.Moves.{moved_by, then_moved}
use Rattle.salt_decisions.specs.Said.{move_of}
use Rattle.salt_stands.proofs.OpenConts.{moved_keeps}
use Rattle.salt_stands.specs.CoordinatorLog.{CoordinatorLog}
use Rattle.salt_stands.specs.OpenConts.{conts_of_move, do_rise, make_move, move_on, moved}
use Rattle.salt_values.specs.declared.cont.Cont.{Cont}
use Rattle.std.proofs.Common.{Bool, Err, List, None, Ok, OnOk, Option, Result, Some, [], ap, drop, get_or, length, refl, sym, true, ℕ, ◌+◌, ◌++◌, ◌<◌, ◌≡◌, ◌∙◌, ◌∷◌}
use Rattle.std.proofs.lemmas.List.{drop_more}
use Rattle.std.specs.List.{list_all}
use Rattle.std.specs.Prelude.{map, option_and_then}

pub on_ok : {T E : Type 0} (r : Result T E) (P Q : Type 0) → OnOk r P → (P → Q) → OnOk r Q
on_ok (Ok x) P Q h f = f h
on_ok (Err e) P Q h f = h

abbrev any : {A : Type 0} → A → Bool
any x = true

all_any : {A : Type 0} (xs : List A) → list_all any xs ≡ true
all_any [] = refl
all_any (x ∷ xs) = all_any xs

all_moves : (format : ℕ) (ds : List Decision) → list_all (λ d. list_all any (conts_of_move (move_in format d.move))) ds ≡ true
all_moves format [] = refl
all_moves format (d ∷ ds) = ap (λ b. Rattle.std.specs.Prelude.◌&&◌ b (list_all (λ d. list_all any (conts_of_move (move_in format d.move))) ds)) (all_any (conts_of_move (move_in format d.move))) ∙ all_moves format ds

-- open continuations rise as the header's do
pub moved_rises : (format : ℕ) (ds : List Decision) (cs es : List Cont) → do_rise cs ≡ true → moved format (Some cs) ds ≡ Some es → do_rise es ≡ true
moved_rises format ds cs es h e = (moved_keeps any format ds cs es (all_moves format ds) (record { rise = h; each = all_any cs }) e).rise

abbrev with_move : List ℕ → Decision
with_move mv = record { number = 0; unit = record { boot = 0; seq = 0 }; mask = 0; move = mv }

pub then_rises : (format : ℕ) (mv : List ℕ) (cs es : List Cont) → do_rise cs ≡ true → option_and_then (make_move cs) (move_in format mv) ≡ Some es → do_rise es ≡ true
then_rises format mv cs es h e = moved_rises format (with_move mv ∷ []) cs es h e

pub moved_by_moves : (format : ℕ) (o : Option (List Cont)) (ds : List Decision) → moved format o ds ≡ moved_by format o (map move_of ds)
moved_by_moves format o [] = refl
moved_by_moves format o (d ∷ ds) = moved_by_moves format (move_on format d o) ds

moved_push : (format : ℕ) (o : Option (List Cont)) (ds : List Decision) (d : Decision) → moved format o (ds ++ d ∷ []) ≡ move_on format d (moved format o ds)
moved_push format o [] d = refl
moved_push format o (e ∷ ds) d = moved_push format (move_on format e o) ds d

unmoved : (format : ℕ) (moves : List (List ℕ)) → moved_by format None moves ≡ None
unmoved format [] = refl
unmoved format (mv ∷ moves) = unmoved format moves

none_some : {A : Type 0} (x : A) → None ≡ Some x → ⊥
none_some x e = cc

pub some_same : {A : Type 0} (x y : A) → Some x ≡ Some y → x ≡ y
some_same x y e = cc

-- A MOVE BY ITS BYTES

pub makes_read : (format : ℕ) (mv : List ℕ) (conts cs : List Cont) (o : Option Move) (made : Move) → o ≡ move_in format mv → o ≡ Some made → then_moved format mv (Some conts) ≡ Some cs → make_move conts made ≡ Some cs
makes_read format mv conts cs o made read is e = ap (option_and_then (make_move conts)) (sym is ∙ read) ∙ e

pub makes_none : (format : ℕ) (mv : List ℕ) (conts cs : List Cont) (o : Option Move) → o ≡ move_in format mv → o ≡ None → then_moved format mv (Some conts) ≡ Some cs → ⊥
makes_none format mv conts cs o read is e = none_some cs (ap (option_and_then (make_move conts)) (sym is ∙ read) ∙ e)

-- SO MANY MOVES have been made: from these continuations the others lead where all of them do
pub record GoneTo (format : ℕ) (header : List Cont) (moves : List (List ℕ)) (i : ℕ) (conts : List Cont) : Type 0 where
  pub rises : do_rise header ≡ true → (cs : List Cont) → moved_by format (Some header) moves ≡ Some cs → do_rise conts ≡ true
  pub goes : do_rise header ≡ true → (cs : List Cont) → moved_by format (Some header) moves ≡ Some cs → moved_by format (Some conts) (drop i moves) ≡ Some cs

pub gone_nowhere : (format : ℕ) (header : List Cont) (moves : List (List ℕ)) (conts : List Cont) → conts ≡ header → GoneTo format header moves 0 conts
gone_nowhere format header moves conts same = record {
  rises = λ rises cs e. ap do_rise same ∙ rises;
  goes = λ rises cs e. ap (λ (l : List Cont). moved_by format (Some l) moves) same ∙ e;
}

module _ (format : ℕ) (header : List Cont) (moves : List (List ℕ)) (i : ℕ) (conts : List Cont) (so_far : GoneTo format header moves i conts) where
  module _ (mv : List ℕ) (low : i < length moves) (here : mv ≡ get_or moves i mv) (more : List Cont)
      (makes : do_rise conts ≡ true → (cs : List Cont) → then_moved format mv (Some conts) ≡ Some cs → more ≡ cs) where
    next : (cs : List Cont) → do_rise header ≡ true → moved_by format (Some header) moves ≡ Some cs → moved_by format (then_moved format mv (Some conts)) (drop (i + 1) moves) ≡ Some cs
    next cs rises e =
        ap (λ m. moved_by format (then_moved format m (Some conts)) (drop (i + 1) moves)) here
        ∙ sym (ap (moved_by format (Some conts)) (drop_more moves i mv low)) ∙ so_far.goes rises cs e

    made : (cs : List Cont) → do_rise conts ≡ true → (o : Option (List Cont)) → then_moved format mv (Some conts) ≡ o → moved_by format o (drop (i + 1) moves) ≡ Some cs
        → (do_rise more ≡ true) × (moved_by format (Some more) (drop (i + 1) moves) ≡ Some cs)
    made cs rises None is e = absurd (none_some cs (sym (unmoved format (drop (i + 1) moves)) ∙ e))
    made cs rises (Some bs) is e =
        let same : more ≡ bs = makes rises bs is in
        (ap do_rise same ∙ then_rises format mv conts bs rises is, ap (λ (l : List Cont). moved_by format (Some l) (drop (i + 1) moves)) same ∙ e)

    pub gone_on : GoneTo format header moves (i + 1) more
    gone_on = record {
      rises = λ rises cs e. (made cs (so_far.rises rises cs e) (then_moved format mv (Some conts)) refl (next cs rises e)).0;
      goes = λ rises cs e. (made cs (so_far.rises rises cs e) (then_moved format mv (Some conts)) refl (next cs rises e)).1;
    }

  pub gone_all : drop i moves ≡ [] → do_rise header ≡ true → (cs : List Cont) → moved_by format (Some header) moves ≡ Some cs → conts ≡ cs
  gone_all all rises cs e = some_same conts cs (sym (ap (moved_by format (Some conts)) all) ∙ so_far.goes rises cs e)

-- WHAT IS OPEN

-- behind the moves of a log that was read
pub open_read : (log : CoordinatorLog) (format : ℕ) (header : List Cont) (moves : List (List ℕ)) (made : List Cont) → format ≡ log.header.format → header ≡ log.header.conts → moves ≡ map move_of log.told.decided
    → (do_rise header ≡ true → (cs : List Cont) → moved_by format (Some header) moves ≡ Some cs → made ≡ cs) → AreOpen made log
open_read log format header moves made f h m goes rises cs e =
    goes (ap do_rise h ∙ rises) cs
    (ap (λ k. moved_by k (Some header) moves) f ∙ ap (λ l. moved_by log.header.format (Some l) moves) h ∙ ap (moved_by log.header.format (Some log.header.conts)) m
    ∙ sym (moved_by_moves log.header.format (Some log.header.conts) log.told.decided) ∙ e)

-- with one decision more
pub open_on : (log : CoordinatorLog) (d : Decision) (conts made : List Cont) → AreOpen conts log
    → (do_rise conts ≡ true → (cs : List Cont) → then_moved log.header.format d.move (Some conts) ≡ Some cs → made ≡ cs) → AreOpen made (decided log d)
open_on log d conts made was goes rises cs e =
    by (moved log.header.format (Some log.header.conts) log.told.decided) refl (sym (moved_push log.header.format (Some log.header.conts) log.told.decided d) ∙ e)
  where
    by : (o : Option (List Cont)) → moved log.header.format (Some log.header.conts) log.told.decided ≡ o → move_on log.header.format d o ≡ Some cs → made ≡ cs
    by None at e = absurd (none_some cs e)
    by (Some bs) at e =
        let same : conts ≡ bs = was rises bs at in
        goes (ap do_rise same ∙ moved_rises log.header.format log.told.decided log.header.conts bs rises at) cs (ap (λ (l : List Cont). then_moved log.header.format d.move (Some l)) same ∙ e)

-- at a snapshot
pub open_here : (log : CoordinatorLog) (conts : List Cont) → AreOpen conts (snapshotted log conts)
open_here log conts rises cs e = some_same conts cs e
