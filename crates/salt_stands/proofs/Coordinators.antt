-- The coordinator with one more boot, definition or decision.
use Rattle.salt_bytes.specs.declared.moves.Move.{Move}
use Rattle.salt_values.specs.declared.cont.Cont.{Cont}
use Rattle.salt_bytes.specs.Conts.{move_in}
use Rattle.salt_bytes.specs.Coordinator.{Boots, CoordinatorEntry, Decides, Decision, Defines, NumberedText, entry_in}
use Rattle.salt_bytes.specs.Generations.{WhichLog}
use Rattle.salt_stands.proofs.Booleans.{all_push, all_weaker, join, left, right}
use Rattle.salt_stands.proofs.CoordinatorLogs.{coordinator_push}
use Rattle.salt_stands.proofs.Pairs.{pair_push}
use Rattle.salt_stands.specs.Coordinator.{Coordinator, Logs, are_sound, coordinator_at, coordinator_of, coordinator_pair, define, definitions_read, device_of, is_sound_cont, is_sound_decision, judge_coordinator}
use Rattle.salt_stands.specs.CoordinatorLog.{CoordinatorLog, Told, coordinator_generation, coordinator_in, tell}
use Rattle.salt_stands.specs.OpenConts.{conts_of_move, do_rise, make_move, move_on, moved}
use Rattle.salt_stands.specs.Pieces.{CoordinatorStands, StaysFitting, HasOneMore, IsCoordinator, IsSameAt, other_log, with_boot, with_decision, with_definition}
use Rattle.salt_stands.specs.Reading.{Reading}
use Rattle.std.proofs.Common.{List, Ok, Option, Some, [], ap, arith, false, refl, subst, sym, true, ℕ, ◌+◌, ◌++◌, ◌≡◌, ◌≤◌, ◌∙◌, ◌∷◌}
use Rattle.std.proofs.lemmas.Bool.Decides.{Decides-eqb, nat_tests}
use Rattle.std.specs.List.{list_all}
use Rattle.std.specs.Option.{ok_or}
use Rattle.std.specs.Prelude.{nat_le, not, option_map, ◌&&◌, ◌==◌, option_and_then}
use Rattle.std.specs.Bool.{then_some}

pub at_most_later : (a b c : ℕ) → b ≤ c → nat_le a b ≡ true → nat_le a c ≡ true
at_most_later a b c h e = grind (arith, nat_tests)

moved_push : (format : ℕ) (cs : Option (List Cont)) (ds : List Decision) (d : Decision) → moved format cs (ds ++ d ∷ []) ≡ move_on format d (moved format cs ds)
moved_push format cs [] d = refl
moved_push format cs (e ∷ ds) d = moved_push format (move_on format e cs) ds d

module _ {D : Type 0} (r : Reading D) where
  defined_push : (o : Option (List D)) (ts : List NumberedText) (t : NumberedText) → definitions_read r o (ts ++ t ∷ []) ≡ define r t (definitions_read r o ts)
  defined_push o [] t = refl
  defined_push o (s ∷ ts) t = defined_push (define r s o) ts t

  -- such a coordinator is what its log gives, and what its devices stand for
  pub is_coordinator : (c : Coordinator D) → IsCoordinator r c → coordinator_of r c.log ≡ Some c
  is_coordinator c h =
      ap (option_and_then (λ ds. option_and_then (λ cs. then_some (are_sound r c.log ds) (record { log = c.log; definitions = ds; conts = cs })) (moved c.log.header.format (Some c.log.header.conts) c.log.told.decided))) h.defined
      ∙ ap (option_and_then (λ cs. then_some (are_sound r c.log c.definitions) (record { log = c.log; definitions = c.definitions; conts = cs }))) h.moves
      ∙ ap (λ b. then_some b c) sound
    where
      sound : are_sound r c.log c.definitions ≡ true
      sound = join (do_rise c.log.header.conts) (list_all (is_sound_cont r c.definitions c.log.told) c.log.header.conts && list_all (is_sound_decision r c.definitions c.log.told c.log.header.format) c.log.told.decided) h.rise
          (join (list_all (is_sound_cont r c.definitions c.log.told) c.log.header.conts) (list_all (is_sound_decision r c.definitions c.log.told c.log.header.format) c.log.told.decided) h.named h.decided)

  pub coordinator_is_at : (logs : Logs) (which : WhichLog) (c : Coordinator D) → CoordinatorStands r logs which c → coordinator_at r logs ≡ Ok (Some c)
  coordinator_is_at logs which c h = ap (judge_coordinator r) h.counts ∙ ap (λ o. ok_or (option_map Some o) (device_of 0 which)) (is_coordinator c h.is)

  later_cont : (ds : List D) (s t : Told) → s.boot ≤ t.boot → s.decisions ≤ t.decisions → (c : Cont) → is_sound_cont r ds s c ≡ true → is_sound_cont r ds t c ≡ true
  later_cont ds s t b n c e =
      let numbers = right (r.fits_cont ds c) (nat_le c.base.boot s.boot && nat_le c.accepted s.decisions) e in
      join (r.fits_cont ds c) (nat_le c.base.boot t.boot && nat_le c.accepted t.decisions) (left (r.fits_cont ds c) (nat_le c.base.boot s.boot && nat_le c.accepted s.decisions) e)
      (join (nat_le c.base.boot t.boot) (nat_le c.accepted t.decisions)
      (at_most_later c.base.boot s.boot t.boot b (left (nat_le c.base.boot s.boot) (nat_le c.accepted s.decisions) numbers))
      (at_most_later c.accepted s.decisions t.decisions n (right (nat_le c.base.boot s.boot) (nat_le c.accepted s.decisions) numbers)))

  later_decision : (ds : List D) (s t : Told) (format : ℕ) → s.boot ≤ t.boot → s.decisions ≤ t.decisions → (d : Decision) → is_sound_decision r ds s format d ≡ true → is_sound_decision r ds t format d ≡ true
  later_decision ds s t format b n d e =
      let named = conts_of_move (move_in format d.move) in
      join (nat_le d.unit.boot t.boot) (list_all (is_sound_cont r ds t) named)
      (at_most_later d.unit.boot s.boot t.boot b (left (nat_le d.unit.boot s.boot) (list_all (is_sound_cont r ds s) named) e))
      (all_weaker (is_sound_cont r ds s) (is_sound_cont r ds t) (later_cont ds s t b n) named (right (nat_le d.unit.boot s.boot) (list_all (is_sound_cont r ds s) named) e))

  more_cont : (ds : List D) (d : D) (t : Told) → StaysFitting r ds d → (c : Cont) → is_sound_cont r ds t c ≡ true → is_sound_cont r (ds ++ d ∷ []) t c ≡ true
  more_cont ds d t grows c e =
      join (r.fits_cont (ds ++ d ∷ []) c) (nat_le c.base.boot t.boot && nat_le c.accepted t.decisions)
      (grows.cont c (left (r.fits_cont ds c) (nat_le c.base.boot t.boot && nat_le c.accepted t.decisions) e))
      (right (r.fits_cont ds c) (nat_le c.base.boot t.boot && nat_le c.accepted t.decisions) e)

  more_decision : (ds : List D) (x : D) (t : Told) (format : ℕ) → StaysFitting r ds x → (d : Decision) → is_sound_decision r ds t format d ≡ true → is_sound_decision r (ds ++ x ∷ []) t format d ≡ true
  more_decision ds x t format grows d e =
      let named = conts_of_move (move_in format d.move) in
      join (nat_le d.unit.boot t.boot) (list_all (is_sound_cont r (ds ++ x ∷ []) t) named)
      (left (nat_le d.unit.boot t.boot) (list_all (is_sound_cont r ds t) named) e)
      (all_weaker (is_sound_cont r ds t) (is_sound_cont r (ds ++ x ∷ []) t) (more_cont ds x t grows) named (right (nat_le d.unit.boot t.boot) (list_all (is_sound_cont r ds t) named) e))

  -- with one more entry the log still counts
  counts_push : (old new : Logs) (which : WhichLog) (log : CoordinatorLog) (payload : List ℕ) (e : CoordinatorEntry) (now : Told)
      → coordinator_pair old ≡ Rattle.salt_bytes.specs.Generations.Counts which log
      → HasOneMore old new (device_of 0 which) payload → IsSameAt (device_of 0 (other_log which)) old new
      → entry_in log.header.shape.parts payload ≡ Some e → tell log.told e ≡ Some now
      → coordinator_pair new ≡ Rattle.salt_bytes.specs.Generations.Counts which (record log { told = now })
  counts_push old new which log payload e now counts one same reads tells =
      pair_push coordinator_generation coordinator_in 0 old new which log (record log { told = now }) payload counts one same refl (λ es is. coordinator_push payload e now es log is reads tells)

  follows_on : {A : Type 0} (n m : ℕ) (x : A) → n ≡ m + 1 → then_some (n == m + 1) x ≡ Some x
  follows_on n m x e = ap (λ b. then_some b x) ((Decides-eqb n (m + 1)).1 e)

  -- A BOOT
  pub boot_stands : (old new : Logs) (which : WhichLog) (c : Coordinator D) (payload : List ℕ)
      → CoordinatorStands r old which c → HasOneMore old new (device_of 0 which) payload → IsSameAt (device_of 0 (other_log which)) old new
      → entry_in c.log.header.shape.parts payload ≡ Some (Boots (c.log.told.boot + 1))
      → CoordinatorStands r new which (with_boot c)
  boot_stands old new which c payload h one same reads =
      let now = (with_boot c).log.told in
      record {
        counts = counts_push old new which c.log payload (Boots (c.log.told.boot + 1)) now h.counts one same reads (follows_on (c.log.told.boot + 1) c.log.told.boot now refl);
        is = record {
          defined = h.is.defined;
          moves = h.is.moves;
          rise = h.is.rise;
          named = all_weaker (is_sound_cont r c.definitions c.log.told) (is_sound_cont r c.definitions now) (later_cont c.definitions c.log.told now (omega arith) (omega arith)) c.log.header.conts h.is.named;
          decided = all_weaker (is_sound_decision r c.definitions c.log.told c.log.header.format) (is_sound_decision r c.definitions now c.log.header.format) (later_decision c.definitions c.log.told now c.log.header.format (omega arith) (omega arith)) c.log.told.decided h.is.decided;
        };
      }

  -- A DECISION: its move goes on from the open continuations
  pub decision_stands : (old new : Logs) (which : WhichLog) (c : Coordinator D) (payload : List ℕ) (d : Decision) (m : Move) (cs : List Cont)
      → CoordinatorStands r old which c → HasOneMore old new (device_of 0 which) payload → IsSameAt (device_of 0 (other_log which)) old new
      → entry_in c.log.header.shape.parts payload ≡ Some (Decides d) → d.number ≡ c.log.told.decisions + 1 → d.unit.boot ≤ c.log.told.boot
      → move_in c.log.header.format d.move ≡ Some m → make_move c.conts m ≡ Some cs
      → list_all (is_sound_cont r c.definitions (with_decision c d cs).log.told) (conts_of_move (Some m)) ≡ true
      → CoordinatorStands r new which (with_decision c d cs)
  decision_stands old new which c payload d m cs h one same reads number boot spells moves sound =
      let now = (with_decision c d cs).log.told in
      let format = c.log.header.format in
      let more : c.log.told.decisions ≤ d.number = omega (arith, number) in
      let late : c.log.told.boot ≤ c.log.told.boot = omega arith in
      let own : is_sound_decision r c.definitions now format d ≡ true =
      join (nat_le d.unit.boot now.boot) (list_all (is_sound_cont r c.definitions now) (conts_of_move (move_in format d.move)))
      (at_most_here d.unit.boot c.log.told.boot boot)
      (subst (λ (o : Option Move). list_all (is_sound_cont r c.definitions now) (conts_of_move o) ≡ true) (sym spells) sound) in
      record {
        counts = counts_push old new which c.log payload (Decides d) now h.counts one same reads (follows_on d.number c.log.told.decisions now number);
        is = record {
          defined = h.is.defined;
          moves = moved_push format (Some c.log.header.conts) c.log.told.decided d ∙ ap (move_on format d) h.is.moves ∙ ap (option_and_then (make_move c.conts)) spells ∙ moves;
          rise = h.is.rise;
          named = all_weaker (is_sound_cont r c.definitions c.log.told) (is_sound_cont r c.definitions now) (later_cont c.definitions c.log.told now late more) c.log.header.conts h.is.named;
          decided = all_push (is_sound_decision r c.definitions now format) c.log.told.decided d
              (all_weaker (is_sound_decision r c.definitions c.log.told format) (is_sound_decision r c.definitions now format) (later_decision c.definitions c.log.told now format late more) c.log.told.decided h.is.decided) own;
        };
      }
    where
      at_most_here : (a b : ℕ) → a ≤ b → nat_le a b ≡ true
      at_most_here a b h = grind (arith, nat_tests)

  -- A DEFINITION
  pub definition_stands : (old new : Logs) (which : WhichLog) (c : Coordinator D) (payload : List ℕ) (t : NumberedText) (d : D)
      → CoordinatorStands r old which c → HasOneMore old new (device_of 0 which) payload → IsSameAt (device_of 0 (other_log which)) old new
      → entry_in c.log.header.shape.parts payload ≡ Some (Defines t) → t.number ≡ c.log.told.decisions + 1
      → r.read t.text ≡ Some d → r.is_refused c.definitions d ≡ false → StaysFitting r c.definitions d
      → CoordinatorStands r new which (with_definition c t d)
  definition_stands old new which c payload t d h one same reads number is_text accepted grows =
      let now = (with_definition c t d).log.told in
      let format = c.log.header.format in
      let ds = c.definitions in
      let more : c.log.told.decisions ≤ t.number = omega (arith, number) in
      let late : c.log.told.boot ≤ c.log.told.boot = omega arith in
      record {
        counts = counts_push old new which c.log payload (Defines t) now h.counts one same reads (follows_on t.number c.log.told.decisions now number);
        is = record {
          defined = defined_push (Some []) c.log.told.definitions t ∙ ap (define r t) h.is.defined ∙ ap (option_and_then (λ x. then_some (not (r.is_refused ds x)) (ds ++ x ∷ []))) is_text ∙ ap (λ b. then_some (not b) (ds ++ d ∷ [])) accepted;
          moves = h.is.moves;
          rise = h.is.rise;
          named = all_weaker (is_sound_cont r ds c.log.told) (is_sound_cont r (ds ++ d ∷ []) now) (λ x e. more_cont ds d now grows x (later_cont ds c.log.told now late more x e)) c.log.header.conts h.is.named;
          decided = all_weaker (is_sound_decision r ds c.log.told format) (is_sound_decision r (ds ++ d ∷ []) now format) (λ x e. more_decision ds d now format grows x (later_decision ds c.log.told now format late more x e)) c.log.told.decided h.is.decided;
        };
      }
