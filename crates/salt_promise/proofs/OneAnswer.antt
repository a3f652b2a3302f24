-- Whatever reads definitions, devices stand for one thing and open in one way.
use Rattle.salt_bytes.specs.Coordinator.{NumberedText}
use Rattle.salt_bytes.specs.Generations.{BothBlank, Counts, Faulty, Pair}
use Rattle.salt_model.specs.Words.{and_then}
use Rattle.salt_stands.specs.Fitting.{definitions_reading, kept_in}
use Rattle.salt_model.specs.Kept.{Definition, Kept}
use Rattle.salt_promise.specs.Standing.{AnswersTo, IsReader, StandFor}
use Rattle.salt_stands.specs.Coordinator.{Coordinator, are_sound, coordinator_of, coordinator_pair, define, definitions_read, device_of, judge_coordinator}
use Rattle.salt_stands.specs.CoordinatorLog.{CoordinatorLog}
use Rattle.salt_stands.specs.OpenConts.{moved}
use Rattle.salt_stands.specs.Stands.{Found, Opening, Stands, stands_on, logs_of, of_coordinator, opening_of, with_parts}
use Rattle.salt_place.specs.declared.placement.Shape.{Shape}
use Rattle.std.proofs.Common.{ap, sym, ◌∙◌}
use Rattle.std.specs.Option.{ok_or}
use Rattle.std.specs.Prelude.{List, None, Ok, Option, Result, Some, [], not, option_map, refl, ℕ, ◌++◌, ◌∷◌, ◌≡◌, option_and_then}
use Rattle.std.specs.Bool.{then_some}

-- TWO READERS are the same at each text
same_read : (a b : List ℕ → Option Definition) → IsReader a → IsReader b → (text : List ℕ) → a text ≡ b text
same_read a b x y text = by (a text) (b text) refl refl
  where
    by : (o p : Option Definition) → a text ≡ o → b text ≡ p → o ≡ p
    by None None e f = refl
    by (Some d) p e f = sym ((y.each text d).1 ((x.each text d).0 e)) ∙ f
    by None (Some d) e f = let g = (x.each text d).1 ((y.each text d).0 f) in cc

module _ (a b : List ℕ → Option Definition) (same : (text : List ℕ) → a text ≡ b text) where
  same_define : (t : NumberedText) (ds : Option (List Definition)) → define (definitions_reading a) t ds ≡ define (definitions_reading b) t ds
  same_define t None = refl
  same_define t (Some ds) = ap (λ o. option_and_then (λ d. then_some (not ((definitions_reading a).is_refused ds d)) (ds ++ d ∷ [])) o) (same t.text)

  same_defined : (ts : List NumberedText) (ds : Option (List Definition)) → definitions_read (definitions_reading a) ds ts ≡ definitions_read (definitions_reading b) ds ts
  same_defined [] ds = refl
  same_defined (t ∷ ts) ds = ap (λ o. definitions_read (definitions_reading a) o ts) (same_define t ds) ∙ same_defined ts (define (definitions_reading b) t ds)

  abbrev sound : CoordinatorLog → Option (List Definition) → Option (Coordinator Definition)
  sound log o = option_and_then (λ ds. option_and_then (λ cs. then_some (are_sound (definitions_reading a) log ds) (record { log = log; definitions = ds; conts = cs })) (moved log.header.format (Some log.header.conts) log.told.decided)) o

  same_coordinator : (log : CoordinatorLog) → coordinator_of (definitions_reading a) log ≡ coordinator_of (definitions_reading b) log
  same_coordinator log = ap (sound log) (same_defined log.told.definitions (Some []))

  same_judged : (p : Pair CoordinatorLog) → judge_coordinator (definitions_reading a) p ≡ judge_coordinator (definitions_reading b) p
  same_judged BothBlank = refl
  same_judged (Faulty which) = refl
  same_judged (Counts which log) = ap (λ o. ok_or (option_map Some o) (device_of 0 which)) (same_coordinator log)

  same_opening : (shape : Shape) (bytes : ℕ → List ℕ) → opening_of (definitions_reading a) bytes shape ≡ opening_of (definitions_reading b) bytes shape
  same_opening shape bytes = ap (of_coordinator (definitions_reading a) bytes shape) (same_judged (coordinator_pair (logs_of bytes)))

  same_standing : (shape : Shape) (bytes : ℕ → List ℕ) → stands_on (definitions_reading a) bytes shape ≡ stands_on (definitions_reading b) bytes shape
  same_standing shape bytes = ap (λ r. and_then r (with_parts (definitions_reading a) (logs_of bytes) bytes shape)) (same_judged (coordinator_pair (logs_of bytes)))

-- WHAT OPENS, by one reader and another

module _ (shape : Shape) (bytes : ℕ → List ℕ) (x : Found Definition) (h : AnswersTo shape bytes (Stands x)) where
  by-another : (read : List ℕ → Option Definition) → IsReader read → opening_of (definitions_reading read) bytes shape ≡ Stands x
  by-another read reads = same_opening read h.read (same_read read h.read reads h.reads) shape bytes ∙ h.is

  -- it opens so, and is answered in no other way
  pub one_answer : (y : Opening Definition) → AnswersTo shape bytes y → y ≡ Stands x
  one_answer y g = sym g.is ∙ by-another g.read g.reads

ok_one : {x y : Found Definition} → ◌≡◌ {A = Result (Found Definition) ℕ} (Ok x) (Ok y) → x ≡ y
ok_one h = cc

pub one_standing : (shape : Shape) (bytes : ℕ → List ℕ) (k l : Kept) → StandFor shape bytes k → StandFor shape bytes l → k ≡ l
one_standing shape bytes k l h g =
    sym h.keeps ∙ ap kept_in (ok_one (sym h.is ∙ same_standing h.read g.read (same_read h.read g.read h.reads g.reads) shape bytes ∙ g.is)) ∙ g.keeps
