-- What an opening answers of bytes.
use Rattle.law_generations.specs.AsIf.{in_format}
use Rattle.salt_bytes.specs.Generations.{BothBlank, Counts, Faulty, Pair, WhichLog}
use Rattle.salt_bytes.specs.Log.{entries_in}
use Rattle.salt_commit.proofs.Opening.{same_shape_is}
use Rattle.salt_commit.specs.Stores.{reading}
use Rattle.salt_model.specs.Words.{and_then}
use Rattle.salt_stands.specs.Fitting.{kept_in}
use Rattle.salt_devices.specs.Leaving.{StandsFor, StandsForSomething, StandsStill}
use Rattle.salt_devices.specs.Refusing.{RefusedAs}
use Rattle.salt_model.specs.Kept.{Definition}
use Rattle.salt_model.specs.Tables.{Tables}
use Rattle.salt_stands.proofs.Pairs.{pair_same}
use Rattle.salt_stands.specs.Coordinator.{Coordinator, coordinator_of, coordinator_pair, device_of, judge_coordinator}
use Rattle.salt_stands.specs.CoordinatorLog.{CoordinatorLog, coordinator_generation, coordinator_in}
use Rattle.salt_stands.specs.Partition.{judge_part, pages_device, part_at, part_device, part_pair}
use Rattle.salt_stands.specs.PartitionLog.{partition_generation, partition_in}
use Rattle.salt_stands.specs.Stands as opening
use Rattle.salt_stands.specs.Stands.{Opening, are_spent, found_with, is_same_kind, is_same_shape, stands_on, logs_of, nothing_found, of_coordinator, of_parts, opening_of, parts_at, with_parts}
use Rattle.salt_stands.specs.Words.{each_from}
use Rattle.salt_storage.specs.Writing.{FindsNoMore}
use Rattle.salt_storage.specs.OpenErr.TheVariants as open_err
use Rattle.salt_storage.specs.OpenErr.TheVariants.{NotSalt, NumbersSpent, OtherShape}
use Rattle.salt_storage.specs.OpenErr.{OpenErr}
use Rattle.salt_place.specs.declared.placement.PlaceKind.TheVariants.{Bands, Remainder}
use Rattle.salt_place.specs.declared.placement.PlaceKind.{PlaceKind}
use Rattle.salt_place.specs.declared.placement.Shape.{Shape}
use Rattle.std.proofs.Common.{Bool, Err, List, None, Ok, Option, Result, Some, ap, arith, false, inl, inr, refl, subst, sym, true, ℕ, ◌+◌, ◌<◌, ◌≡◌, ◌⊎◌, ◌∙◌, ◌∷◌}
use Rattle.std.proofs.lemmas.Bool.Decides.{Decides-eqb}
use Rattle.std.specs.Option.{ok_or}
use Rattle.std.specs.Prelude.{if◌then◌else◌, not, option_map, suc, zero, ◌&&◌}

-- THE ANSWER, by what the coordinator's log says

abbrev asked_as : Coordinator Definition → Shape → (same spent : Bool) → Result (List Tables) ℕ → Opening Definition
asked_as c asked same spent parts =
    if not same then opening.OtherShape c.log.header.shape asked else
    if spent then opening.NumbersSpent c.log.told.boot c.log.told.decisions else
    of_parts c parts

-- where a log counts and stands for something
answered : (bytes : ℕ → List ℕ) (asked : Shape) (c : Coordinator Definition)
    → of_coordinator reading bytes asked (Ok (Some c)) ≡ asked_as c asked (is_same_shape c.log.header.shape asked) (are_spent c.log.told.boot c.log.told.decisions) (parts_at reading c (logs_of bytes) bytes)
answered bytes asked c = refl

-- the pair is faulty
pub faulty : (bytes : ℕ → List ℕ) (asked : Shape) (which : WhichLog) → coordinator_pair (logs_of bytes) ≡ Faulty which → opening_of reading bytes asked ≡ opening.NotSalt (device_of 0 which)
faulty bytes asked which is = ap (λ p. of_coordinator reading bytes asked (judge_coordinator reading p)) is

-- the log that counts stands for nothing
pub stands_for_nothing : (bytes : ℕ → List ℕ) (asked : Shape) (which : WhichLog) (log : CoordinatorLog) → coordinator_pair (logs_of bytes) ≡ Counts which log → coordinator_of reading log ≡ None
    → opening_of reading bytes asked ≡ opening.NotSalt (device_of 0 which)
stands_for_nothing bytes asked which log counts none =
    ap (λ p. of_coordinator reading bytes asked (judge_coordinator reading p)) counts ∙ ap (λ o. of_coordinator reading bytes asked (ok_or (option_map Some o) (device_of 0 which))) none

-- WHAT STANDS: the devices are blank, or a log counts, and the partitions stand

pub record IsCounted (bytes : ℕ → List ℕ) (found : opening.Found Definition) : Type 0 where
  pub which : WhichLog
  pub log : CoordinatorLog
  pub counts : coordinator_pair (logs_of bytes) ≡ Counts which log
  pub c : Coordinator Definition
  pub reads : coordinator_of reading log ≡ Some c
  pub parts : List Tables
  pub stand : parts_at reading c (logs_of bytes) bytes ≡ Ok parts
  pub is : found_with c parts ≡ found

-- nothing stands there yet
pub record IsNothing (bytes : ℕ → List ℕ) (asked : Shape) (found : opening.Found Definition) : Type 0 where
  pub blank : coordinator_pair (logs_of bytes) ≡ BothBlank
  pub is : nothing_found asked ≡ found

pub judged_as : (bytes : ℕ → List ℕ) (asked : Shape) (found : opening.Found Definition) → stands_on reading bytes asked ≡ Ok found → IsNothing bytes asked found ⊎ IsCounted bytes found
judged_as bytes asked found e = by (coordinator_pair (logs_of bytes)) refl e
  where
    of_part : (which : WhichLog) (log : CoordinatorLog) → coordinator_pair (logs_of bytes) ≡ Counts which log → (c : Coordinator Definition) → coordinator_of reading log ≡ Some c
        → (r : Result (List Tables) ℕ) → parts_at reading c (logs_of bytes) bytes ≡ r → and_then r (λ parts. Ok (found_with c parts)) ≡ Ok found → IsCounted bytes found
    of_part which log counts c reads (Err dev) is e' = absurd (cc e')
    of_part which log counts c reads (Ok parts) is e' = record { which = which; log = log; counts = counts; c = c; reads = reads; parts = parts; stand = is; is = cc e' }

    of_log_read : (which : WhichLog) (log : CoordinatorLog) → coordinator_pair (logs_of bytes) ≡ Counts which log → (o : Option (Coordinator Definition)) → coordinator_of reading log ≡ o
        → and_then (ok_or (option_map Some o) (device_of 0 which)) (with_parts reading (logs_of bytes) bytes asked) ≡ Ok found → IsCounted bytes found
    of_log_read which log counts None is e' = absurd (cc e')
    of_log_read which log counts (Some c) is e' = of_part which log counts c is (parts_at reading c (logs_of bytes) bytes) refl e'

    by : (p : Pair CoordinatorLog) → coordinator_pair (logs_of bytes) ≡ p → and_then (judge_coordinator reading p) (with_parts reading (logs_of bytes) bytes asked) ≡ Ok found → IsNothing bytes asked found ⊎ IsCounted bytes found
    by BothBlank is e' = inl (record { blank = is; is = cc e' })
    by (Faulty which) is e' = absurd (cc e')
    by (Counts which log) is e' = inr (of_log_read which log is (coordinator_of reading log) refl e')

-- and the log has the shape that is asked for
pub record IsOpened (bytes : ℕ → List ℕ) (asked : Shape) (found : opening.Found Definition) : Type 0 where
  pub counted : IsCounted bytes found
  pub same : is_same_shape counted.c.log.header.shape asked ≡ true

pub opened_as : (bytes : ℕ → List ℕ) (asked : Shape) (found : opening.Found Definition) → opening_of reading bytes asked ≡ opening.Stands found → IsNothing bytes asked found ⊎ IsOpened bytes asked found
opened_as bytes asked found e = by (coordinator_pair (logs_of bytes)) refl e
  where
    of_part : (which : WhichLog) (log : CoordinatorLog) → coordinator_pair (logs_of bytes) ≡ Counts which log → (c : Coordinator Definition) → coordinator_of reading log ≡ Some c
        → (same : Bool) → is_same_shape c.log.header.shape asked ≡ same → (spent : Bool) (r : Result (List Tables) ℕ) → parts_at reading c (logs_of bytes) bytes ≡ r → asked_as c asked same spent r ≡ opening.Stands found → IsOpened bytes asked found
    of_part which log counts c reads false shape spent r is e' = absurd (cc e')
    of_part which log counts c reads true shape true r is e' = absurd (cc e')
    of_part which log counts c reads true shape false (Err dev) is e' = absurd (cc e')
    of_part which log counts c reads true shape false (Ok parts) is e' =
        record { counted = record { which = which; log = log; counts = counts; c = c; reads = reads; parts = parts; stand = is; is = cc e' }; same = shape }

    of_log_read : (which : WhichLog) (log : CoordinatorLog) → coordinator_pair (logs_of bytes) ≡ Counts which log → (o : Option (Coordinator Definition)) → coordinator_of reading log ≡ o
        → of_coordinator reading bytes asked (ok_or (option_map Some o) (device_of 0 which)) ≡ opening.Stands found → IsOpened bytes asked found
    of_log_read which log counts None is e' = absurd (cc e')
    of_log_read which log counts (Some c) is e' =
        of_part which log counts c is (is_same_shape c.log.header.shape asked) refl (are_spent c.log.told.boot c.log.told.decisions) (parts_at reading c (logs_of bytes) bytes) refl e'

    by : (p : Pair CoordinatorLog) → coordinator_pair (logs_of bytes) ≡ p → of_coordinator reading bytes asked (judge_coordinator reading p) ≡ opening.Stands found → IsNothing bytes asked found ⊎ IsOpened bytes asked found
    by BothBlank is e' = inl (record { blank = is; is = cc e' })
    by (Faulty which) is e' = absurd (cc e')
    by (Counts which log) is e' = inr (of_log_read which log is (coordinator_of reading log) refl e')

-- what is opened stands, in the shape that is asked for
pub opened_stands : (bytes : ℕ → List ℕ) (asked : Shape) (found : opening.Found Definition) → opening_of reading bytes asked ≡ opening.Stands found → stands_on reading bytes asked ≡ Ok found
opened_stands bytes asked found e = by (opened_as bytes asked found e)
  where
    by : IsNothing bytes asked found ⊎ IsOpened bytes asked found → stands_on reading bytes asked ≡ Ok found
    by (inl none) = ap (λ p. and_then (judge_coordinator reading p) (with_parts reading (logs_of bytes) bytes asked)) none.blank ∙ ap Ok none.is
    by (inr o) =
        let k = o.counted in
        ap (λ p. and_then (judge_coordinator reading p) (with_parts reading (logs_of bytes) bytes asked)) k.counts
        ∙ ap (λ c. and_then (ok_or (option_map Some c) (device_of 0 k.which)) (with_parts reading (logs_of bytes) bytes asked)) k.reads
        ∙ ap (λ r. and_then r (λ parts. Ok (found_with k.c parts))) k.stand ∙ ap Ok k.is

-- what is opened is in the shape that is asked for, and its numbers are not spent
pub opened_shape : (bytes : ℕ → List ℕ) (asked : Shape) (found : opening.Found Definition) → opening_of reading bytes asked ≡ opening.Stands found → found.shape ≡ asked
opened_shape bytes asked found e = by (opened_as bytes asked found e)
  where
    by : IsNothing bytes asked found ⊎ IsOpened bytes asked found → found.shape ≡ asked
    by (inl none) = ap (λ (f : opening.Found Definition). f.shape) (sym none.is)
    by (inr o) = ap (λ (f : opening.Found Definition). f.shape) (sym o.counted.is) ∙ same_shape_is o.counted.c.log.header.shape asked o.same

-- WHERE NOTHING WAS WRITTEN YET but a first header

same_kind : (k : PlaceKind) → is_same_kind k k ≡ true
same_kind Remainder = refl
same_kind Bands = refl

same_shape_true : (s : Shape) → is_same_shape s s ≡ true
same_shape_true s = ap (λ b. b && is_same_kind s.kind s.kind) ((Decides-eqb s.parts s.parts).1 refl) ∙ same_kind s.kind

-- what stands for a new database is opened as one
pub new_opens : (image : ℕ → List ℕ) (asked : Shape) → stands_on reading image asked ≡ Ok (nothing_found asked) → opening_of reading image asked ≡ opening.Stands (nothing_found asked)
new_opens image asked e = by (judged_as image asked (nothing_found asked) e)
  where
    by : IsNothing image asked (nothing_found asked) ⊎ IsCounted image (nothing_found asked) → opening_of reading image asked ≡ opening.Stands (nothing_found asked)
    by (inl none) = ap (λ p. of_coordinator reading image asked (judge_coordinator reading p)) none.blank
    by (inr k) =
        let shape : k.c.log.header.shape ≡ asked = ap (λ (f : opening.Found Definition). f.shape) k.is in
        let boot : k.c.log.told.boot ≡ 0 = ap (λ (f : opening.Found Definition). f.kept.boot) k.is in
        let decisions : k.c.log.told.decisions ≡ 0 = ap (λ (f : opening.Found Definition). f.kept.decisions) k.is in
        ap (λ p. of_coordinator reading image asked (judge_coordinator reading p)) k.counts
        ∙ ap (λ o. of_coordinator reading image asked (ok_or (option_map Some o) (device_of 0 k.which))) k.reads
        ∙ answered image asked k.c
        ∙ ap (λ b. asked_as k.c asked b (are_spent k.c.log.told.boot k.c.log.told.decisions) (parts_at reading k.c (logs_of image) image)) (ap (λ s. is_same_shape s asked) shape ∙ same_shape_true asked)
        ∙ ap (λ n. asked_as k.c asked true (are_spent n k.c.log.told.decisions) (parts_at reading k.c (logs_of image) image)) boot
        ∙ ap (λ n. asked_as k.c asked true (are_spent 0 n) (parts_at reading k.c (logs_of image) image)) decisions
        ∙ ap (of_parts k.c) k.stand
        ∙ ap opening.Stands k.is

-- what stands in the shape that is asked for is opened, unless its numbers are spent
pub record AreSpent (bytes : ℕ → List ℕ) (asked : Shape) (found : opening.Found Definition) : Type 0 where
  pub opens : opening_of reading bytes asked ≡ opening.NumbersSpent found.kept.boot found.kept.decisions
  pub spent : are_spent found.kept.boot found.kept.decisions ≡ true

pub judged_opens : (bytes : ℕ → List ℕ) (asked : Shape) (found : opening.Found Definition) → stands_on reading bytes asked ≡ Ok found → found.shape ≡ asked → (opening_of reading bytes asked ≡ opening.Stands found) ⊎ AreSpent bytes asked found
judged_opens bytes asked found e has = by (judged_as bytes asked found e)
  where
    by : IsNothing bytes asked found ⊎ IsCounted bytes found → (opening_of reading bytes asked ≡ opening.Stands found) ⊎ AreSpent bytes asked found
    by (inl none) = inl (ap (λ p. of_coordinator reading bytes asked (judge_coordinator reading p)) none.blank ∙ ap opening.Stands none.is)
    by (inr k) = spent (are_spent k.c.log.told.boot k.c.log.told.decisions) refl
      where
        shape : k.c.log.header.shape ≡ asked
        shape = ap (λ (f : opening.Found Definition). f.shape) k.is ∙ has

        begins : opening_of reading bytes asked ≡ asked_as k.c asked true (are_spent k.c.log.told.boot k.c.log.told.decisions) (parts_at reading k.c (logs_of bytes) bytes)
        begins =
            ap (λ p. of_coordinator reading bytes asked (judge_coordinator reading p)) k.counts
            ∙ ap (λ o. of_coordinator reading bytes asked (ok_or (option_map Some o) (device_of 0 k.which))) k.reads
            ∙ answered bytes asked k.c
            ∙ ap (λ b. asked_as k.c asked b (are_spent k.c.log.told.boot k.c.log.told.decisions) (parts_at reading k.c (logs_of bytes) bytes)) (ap (λ s. is_same_shape s asked) shape ∙ same_shape_true asked)

        boot : k.c.log.told.boot ≡ found.kept.boot
        boot = ap (λ (f : opening.Found Definition). f.kept.boot) k.is

        decisions : k.c.log.told.decisions ≡ found.kept.decisions
        decisions = ap (λ (f : opening.Found Definition). f.kept.decisions) k.is

        spent : (b : Bool) → are_spent k.c.log.told.boot k.c.log.told.decisions ≡ b → (opening_of reading bytes asked ≡ opening.Stands found) ⊎ AreSpent bytes asked found
        spent false is = inl (begins ∙ ap (λ b. asked_as k.c asked true b (parts_at reading k.c (logs_of bytes) bytes)) is ∙ ap (of_parts k.c) k.stand ∙ ap opening.Stands k.is)
        spent true is = inr (record {
          opens = begins ∙ ap (λ b. asked_as k.c asked true b (parts_at reading k.c (logs_of bytes) bytes)) is ∙ ap (λ n. opening.NumbersSpent n k.c.log.told.decisions) boot ∙ ap (opening.NumbersSpent found.kept.boot) decisions;
          spent = ap (λ n. are_spent n found.kept.decisions) (sym boot) ∙ ap (are_spent k.c.log.told.boot) (sym decisions) ∙ is;
        })

-- a log of the shape that is asked for, with spent numbers, is refused by them
spent_there : (bytes : ℕ → List ℕ) (asked : Shape) (found : opening.Found Definition) (k : IsCounted bytes found) → is_same_shape k.c.log.header.shape asked ≡ true → are_spent found.kept.boot found.kept.decisions ≡ true → AreSpent bytes asked found
spent_there bytes asked found k same spent = record {
  opens =
      ap (λ p. of_coordinator reading bytes asked (judge_coordinator reading p)) k.counts
      ∙ ap (λ o. of_coordinator reading bytes asked (ok_or (option_map Some o) (device_of 0 k.which))) k.reads
      ∙ answered bytes asked k.c
      ∙ ap (λ b. asked_as k.c asked b (are_spent k.c.log.told.boot k.c.log.told.decisions) (parts_at reading k.c (logs_of bytes) bytes)) same
      ∙ ap (λ b. asked_as k.c asked true b (parts_at reading k.c (logs_of bytes) bytes)) there
      ∙ ap (λ n. opening.NumbersSpent n k.c.log.told.decisions) boot
      ∙ ap (opening.NumbersSpent found.kept.boot) decisions;
  spent = spent;
}
  where
    boot : k.c.log.told.boot ≡ found.kept.boot
    boot = ap (λ (f : opening.Found Definition). f.kept.boot) k.is

    decisions : k.c.log.told.decisions ≡ found.kept.decisions
    decisions = ap (λ (f : opening.Found Definition). f.kept.decisions) k.is

    there : are_spent k.c.log.told.boot k.c.log.told.decisions ≡ true
    there = ap (λ n. are_spent n k.c.log.told.decisions) boot ∙ ap (are_spent found.kept.boot) decisions ∙ spent

-- OTHER BYTES that say the same

pub record AreAlike (shape : Shape) (bytes image : ℕ → List ℕ) : Type 0 where
  pub first : image 0 ≡ bytes 0
  pub second : image 1 ≡ bytes 1
  pub part_a : (p : ℕ) → p < shape.parts → image (part_device p) ≡ bytes (part_device p)
  pub part_b : (p : ℕ) → p < shape.parts → image (part_device p + 1) ≡ bytes (part_device p + 1)
  pub pages : (p : ℕ) → p < shape.parts → image (pages_device p) ≡ bytes (pages_device p)

alike_back : (shape : Shape) (bytes image : ℕ → List ℕ) → AreAlike shape bytes image → AreAlike shape image bytes
alike_back shape bytes image a = record {
  first = sym a.first;
  second = sym a.second;
  part_a = λ p low. sym (a.part_a p low);
  part_b = λ p low. sym (a.part_b p low);
  pages = λ p low. sym (a.pages p low);
}

each_same : {A : Type 0} (f g : ℕ → Result A ℕ) (p n : ℕ) → ((k : ℕ) → k < n → f (p + k) ≡ g (p + k)) → each_from f p n ≡ each_from g p n
each_same f g p zero h = refl
each_same f g p (suc n) h =
    let here : p + 0 ≡ p = omega arith in
    let on : (k : ℕ) → p + suc k ≡ suc p + k = λ k. omega arith in
    ap (λ r. and_then r (λ x. and_then (each_from f (suc p) n) (λ xs. Ok (x ∷ xs)))) (subst (λ q. f q ≡ g q) here (h 0 (omega arith)))
    ∙ ap (λ r. and_then (g p) (λ x. and_then r (λ xs. Ok (x ∷ xs)))) (each_same f g (suc p) n (λ k low. subst (λ q. f q ≡ g q) (on k) (h (suc k) (omega (arith, low)))))

module _ (shape : Shape) (bytes image : ℕ → List ℕ) (alike : AreAlike shape bytes image) where
  same_pair : coordinator_pair (logs_of image) ≡ coordinator_pair (logs_of bytes)
  same_pair = pair_same coordinator_generation coordinator_in 0 (logs_of bytes) (logs_of image) (ap entries_in alike.first) (ap entries_in alike.second)

  same_part_pair : (p : ℕ) → p < shape.parts → part_pair p (logs_of image) ≡ part_pair p (logs_of bytes)
  same_part_pair p low = pair_same partition_generation (partition_in p) (part_device p) (logs_of bytes) (logs_of image) (ap entries_in (alike.part_a p low)) (ap entries_in (alike.part_b p low))

  same_part : (c : Coordinator Definition) (p : ℕ) → p < shape.parts → part_at reading c (logs_of image) image p ≡ part_at reading c (logs_of bytes) bytes p
  same_part c p low = ap (λ pages. judge_part reading c p pages (part_pair p (logs_of image))) (alike.pages p low) ∙ ap (judge_part reading c p (bytes (pages_device p))) (same_part_pair p low)

  same_parts : (c : Coordinator Definition) → c.log.header.shape ≡ shape → parts_at reading c (logs_of image) image ≡ parts_at reading c (logs_of bytes) bytes
  same_parts c is =
      let count : c.log.header.shape.parts ≡ shape.parts = ap (λ (s : Shape). s.parts) is in
      each_same (part_at reading c (logs_of image) image) (part_at reading c (logs_of bytes) bytes) 0 c.log.header.shape.parts (λ k low. same_part c (0 + k) (omega (arith, low, count)))

  same_answer : (r : Result (Option (Coordinator Definition)) ℕ) → of_coordinator reading image shape r ≡ of_coordinator reading bytes shape r
  same_answer (Err dev) = refl
  same_answer (Ok None) = refl
  same_answer (Ok (Some c)) = answered image shape c ∙ by (is_same_shape c.log.header.shape shape) refl ∙ sym (answered bytes shape c)
    where
      by : (b : Bool) → is_same_shape c.log.header.shape shape ≡ b
          → asked_as c shape b (are_spent c.log.told.boot c.log.told.decisions) (parts_at reading c (logs_of image) image) ≡ asked_as c shape b (are_spent c.log.told.boot c.log.told.decisions) (parts_at reading c (logs_of bytes) bytes)
      by false other = refl
      by true same = ap (asked_as c shape true (are_spent c.log.told.boot c.log.told.decisions)) (same_parts c (same_shape_is c.log.header.shape shape same))

  pub same_opening : opening_of reading image shape ≡ opening_of reading bytes shape
  same_opening = ap (λ p. of_coordinator reading image shape (judge_coordinator reading p)) same_pair ∙ same_answer (judge_coordinator reading (coordinator_pair (logs_of bytes)))

  -- what the one stands for in this shape, the other does
  same_judged : (found : opening.Found Definition) → found.shape ≡ shape → stands_on reading image shape ≡ Ok found → stands_on reading bytes shape ≡ Ok found
  same_judged found is e = by (judged_as image shape found e)
    where
      by : IsNothing image shape found ⊎ IsCounted image found → stands_on reading bytes shape ≡ Ok found
      by (inl none) = ap (λ p. and_then (judge_coordinator reading p) (with_parts reading (logs_of bytes) bytes shape)) (sym same_pair ∙ none.blank) ∙ ap Ok none.is
      by (inr k) =
          let has : k.c.log.header.shape ≡ shape = ap (λ (f : opening.Found Definition). f.shape) k.is ∙ is in
          ap (λ p. and_then (judge_coordinator reading p) (with_parts reading (logs_of bytes) bytes shape)) (sym same_pair ∙ k.counts)
          ∙ ap (λ c. and_then (ok_or (option_map Some c) (device_of 0 k.which)) (with_parts reading (logs_of bytes) bytes shape)) k.reads
          ∙ ap (λ r. and_then r (λ parts. Ok (found_with k.c parts))) (sym (same_parts k.c has) ∙ k.stand) ∙ ap Ok k.is

  same_refusal : (e : OpenErr) → RefusedAs shape image e → RefusedAs shape bytes e
  same_refusal (NotSalt dev) is = sym same_opening ∙ is
  same_refusal (OtherShape kept asked) is = sym same_opening ∙ is
  same_refusal (NumbersSpent boot decisions) is = sym same_opening ∙ is
  same_refusal open_err.Failed is = is
  same_refusal open_err.Stopped is = is
  same_refusal (open_err.Full dev) is = is
  same_refusal open_err.Memory is = is

  pub same_finds : FindsNoMore (RefusedAs shape bytes) (StandsFor shape bytes) (RefusedAs shape image) (StandsFor shape image)
  same_finds = record {
    refuses_no_more = same_refusal;
    finds_no_more = λ k s. record { found = s.found; is = same_judged s.found s.has_shape s.is; has_shape = s.has_shape; keeps = s.keeps };
  }

-- BLANK BYTES, and an image of a new database

pub record IsMadeNew (shape : Shape) (bytes image : ℕ → List ℕ) : Type 0 where
  pub blank : coordinator_pair (logs_of bytes) ≡ BothBlank
  pub new : stands_on reading image shape ≡ Ok (nothing_found shape)

module _ (shape : Shape) (bytes image : ℕ → List ℕ) (made : IsMadeNew shape bytes image) where
  opens_new : opening_of reading image shape ≡ opening.Stands (nothing_found shape)
  opens_new = new_opens image shape made.new

  no_refusal : (e : OpenErr) → RefusedAs shape image e → RefusedAs shape bytes e
  no_refusal (NotSalt dev) is = absurd (cc (opens_new, is))
  no_refusal (OtherShape kept asked) is = absurd (cc (opens_new, is))
  no_refusal (NumbersSpent boot decisions) is = absurd (cc (opens_new, is))
  no_refusal open_err.Failed is = is
  no_refusal open_err.Stopped is = is
  no_refusal (open_err.Full dev) is = is
  no_refusal open_err.Memory is = is

  judged_blank : stands_on reading bytes shape ≡ Ok (nothing_found shape)
  judged_blank = ap (λ p. and_then (judge_coordinator reading p) (with_parts reading (logs_of bytes) bytes shape)) made.blank

  new_finds : FindsNoMore (RefusedAs shape bytes) (StandsFor shape bytes) (RefusedAs shape image) (StandsFor shape image)
  new_finds = record {
    refuses_no_more = no_refusal;
    finds_no_more = λ k s.
        let both : Ok (nothing_found shape) ≡ Ok s.found = sym made.new ∙ s.is in
        let same : nothing_found shape ≡ s.found = cc both in
        record { found = nothing_found shape; is = judged_blank; has_shape = refl; keeps = ap kept_in same ∙ s.keeps };
  }

  new_stands_for : StandsStill shape bytes image
  new_stands_for k s =
      let both : Ok (nothing_found shape) ≡ Ok s.found = sym judged_blank ∙ s.is in
      let same : nothing_found shape ≡ s.found = cc both in
      record { found = nothing_found shape; is = made.new; has_shape = refl; keeps = ap kept_in same ∙ s.keeps }

-- AN IMAGE OF A STORE that was opened, in some format

pub record IsStillThere (shape : Shape) (bytes image : ℕ → List ℕ) : Type 0 where
  pub found : opening.Found Definition
  pub opens : opening_of reading bytes shape ≡ opening.Stands found
  pub format : ℕ
  pub stands : stands_on reading image shape ≡ Ok (in_format format found)

module _ (shape : Shape) (bytes image : ℕ → List ℕ) (there : IsStillThere shape bytes image) where
  abbrev now : opening.Found Definition
  now = in_format there.format there.found

  stood : stands_on reading bytes shape ≡ Ok there.found
  stood = opened_stands bytes shape there.found there.opens

  has_shape : there.found.shape ≡ shape
  has_shape = opened_shape bytes shape there.found there.opens

  not_spent : AreSpent bytes shape there.found → ⊥
  not_spent sp = let both : opening.Stands there.found ≡ opening.NumbersSpent there.found.kept.boot there.found.kept.decisions = sym there.opens ∙ sp.opens in cc both

  unspent : are_spent there.found.kept.boot there.found.kept.decisions ≡ true → ⊥
  unspent spent = by (opened_as bytes shape there.found there.opens)
    where
      by : IsNothing bytes shape there.found ⊎ IsOpened bytes shape there.found → ⊥
      by (inl none) =
          let boot : there.found.kept.boot ≡ 0 = ap (λ (f : opening.Found Definition). f.kept.boot) (sym none.is) in
          let decisions : there.found.kept.decisions ≡ 0 = ap (λ (f : opening.Found Definition). f.kept.decisions) (sym none.is) in
          let zero_spent : are_spent 0 0 ≡ true = ap (λ n. are_spent n 0) (sym boot) ∙ ap (are_spent there.found.kept.boot) (sym decisions) ∙ spent in
          cc zero_spent
      by (inr o) = not_spent (spent_there bytes shape there.found o.counted o.same spent)

  opens_still : opening_of reading image shape ≡ opening.Stands now
  opens_still = by (judged_opens image shape now there.stands has_shape)
    where
      by : (opening_of reading image shape ≡ opening.Stands now) ⊎ AreSpent image shape now → opening_of reading image shape ≡ opening.Stands now
      by (inl is) = is
      by (inr sp) = absurd (unspent sp.spent)

  still_refused : (e : OpenErr) → RefusedAs shape image e → RefusedAs shape bytes e
  still_refused (NotSalt dev) is = absurd (cc (opens_still, is))
  still_refused (OtherShape kept asked) is = absurd (cc (opens_still, is))
  still_refused (NumbersSpent boot decisions) is = absurd (cc (opens_still, is))
  still_refused open_err.Failed is = is
  still_refused open_err.Stopped is = is
  still_refused (open_err.Full dev) is = is
  still_refused open_err.Memory is = is

  still_finds : FindsNoMore (RefusedAs shape bytes) (StandsFor shape bytes) (RefusedAs shape image) (StandsFor shape image)
  still_finds = record {
    refuses_no_more = still_refused;
    finds_no_more = λ k s.
        let both : Ok now ≡ Ok s.found = sym there.stands ∙ s.is in
        let same : now ≡ s.found = cc both in
        record { found = there.found; is = stood; has_shape = has_shape; keeps = ap kept_in same ∙ s.keeps };
  }

  still_stands : StandsStill shape bytes image
  still_stands k s =
      let both : Ok there.found ≡ Ok s.found = sym stood ∙ s.is in
      let same : there.found ≡ s.found = cc both in
      record { found = now; is = there.stands; has_shape = has_shape; keeps = ap kept_in same ∙ s.keeps }

  -- and it stands for something
  pub still_something : StandsForSomething shape image
  still_something = (kept_in there.found, record { found = now; is = there.stands; has_shape = has_shape; keeps = refl })

-- ONE OF THE THREE, as an opening that failed leaves

abbrev pub IsLike : Shape → (bytes image : ℕ → List ℕ) → Type 0
IsLike shape bytes image = AreAlike shape bytes image ⊎ (IsMadeNew shape bytes image ⊎ IsStillThere shape bytes image)

module _ (shape : Shape) (bytes image : ℕ → List ℕ) where
  pub like_finds : IsLike shape bytes image → FindsNoMore (RefusedAs shape bytes) (StandsFor shape bytes) (RefusedAs shape image) (StandsFor shape image)
  like_finds (inl alike) = same_finds shape bytes image alike
  like_finds (inr (inl made)) = new_finds shape bytes image made
  like_finds (inr (inr there)) = still_finds shape bytes image there

  pub like_stands : IsLike shape bytes image → StandsStill shape bytes image
  like_stands (inl alike) = (same_finds shape image bytes (alike_back shape bytes image alike)).finds_no_more
  like_stands (inr (inl made)) = new_stands_for shape bytes image made
  like_stands (inr (inr there)) = still_stands shape bytes image there
