-- What devices stand for fits its definitions, where what reads their texts gives tables with keys.
use Rattle.salt_ast.proofs.LowExprs.{other_is_none}
use Rattle.salt_ast.specs.Judgement.{kept_limit, table_fault}
use Rattle.salt_ast.specs.ProgramJudgement.{faulty, kept as of_kept, line_fault, of_program_fault, program_fault, program_kept_limit, program_named}
use Rattle.salt_ast.specs.declared.trees.TableDef.{TableDef}
use Rattle.salt_bytes.specs.Conts.{move_in}
use Rattle.salt_bytes.specs.Coordinator.{Decision, NumberedText}
use Rattle.salt_bytes.specs.Formats.{has_nulls}
use Rattle.salt_bytes.specs.Generations.{BothBlank, Blank, Content, Counts, Faulty, IsRead, Outside, Pair, chosen, content_of, follows, pair_of, read_or_outside}
use Rattle.salt_bytes.specs.Page.{TableRow}
use Rattle.salt_bytes.specs.Partition.{Prepared}
use Rattle.salt_bytes.specs.declared.moves.Move.TheVariants.{Continue, Finish, Plain}
use Rattle.salt_bytes.specs.declared.moves.Move.{Move}
use Rattle.salt_stands.specs.Fitting.{definitions_reading, is_cont_of, is_refused, is_row_of, kept_in, programs_defined, tables_defined}
use Rattle.law_story.proofs.Every.{every-append, every-filter}
use Rattle.law_story.proofs.Ids.{and_left, and_right}
use Rattle.salt_model.specs.Kept.{Definition, Kept, OfProgram, OfTable, cont_in, nothing_kept}
use Rattle.salt_model.specs.Tables.{Entry, Tables, changed_at, no_rows}
use Rattle.salt_model.specs.Words.{Every, and_then}
use Rattle.salt_values.specs.Id.{has_id}
use Rattle.salt_stands.specs.Coordinator.{Coordinator, Logs, are_sound, coordinator_at, coordinator_of, coordinator_pair, decided_for, define, definitions_read, device_of, is_sound_cont, is_sound_decision, judge_coordinator}
use Rattle.salt_stands.specs.CoordinatorLog.{CoordinatorLog, Told}
use Rattle.salt_stands.specs.OpenConts.{conts_of_move, go_to, is_accepted_before, is_not_of, make_move, move_on, moved, replace_cont}
use Rattle.salt_stands.specs.Partition.{are_sound_rows, changes_if, decided_changes, is_sound_change, is_sound_log, is_sound_prepared, is_sound_to, judge_part, pages_device, part_at, part_device, part_pair, part_tables, rows_from, rows_of_pages}
use Rattle.salt_stands.specs.PartitionLog.{PartitionLog, partition_generation, partition_in}
use Rattle.salt_stands.specs.Stands.{Found, found_with, if_ok, stands_on, logs_of, nothing_found, parts_at, stands_of, with_parts}
use Rattle.salt_stands.specs.Tables.{change_of_row, joined, put_entries}
use Rattle.salt_stands.specs.Words.{each_from}
use Rattle.law_types.proofs.Defining.{program-defined, table-defined}
use Rattle.law_types.proofs.Judged.{unmapped}
use Rattle.law_types.proofs.Rows.{every-put, rows-changed}
use Rattle.law_types.proofs.Taken.{AreKeyed, IsKeyed, IsLogKeyed, log-keyed}
use Rattle.law_types.specs.Typed.{AreChangesOf, AreRowsOf, FitsAt, IsRowAt, IsTyped, has_key}
use Rattle.salt_values.specs.Id.{is_same_id}
use Rattle.salt_values.specs.declared.change.Change.{Change}
use Rattle.salt_values.specs.declared.cont.Cont.{Cont}
use Rattle.salt_values.specs.declared.id.Id.{Id}
use Rattle.salt_place.specs.declared.placement.Shape.{Shape}
use Rattle.salt_values.specs.declared.value.Value.{Value}
use Rattle.std.proofs.Common.{ap, subst}
use Rattle.std.specs.List.{filter, list_all}
use Rattle.std.specs.Option.{ok_or}
use Rattle.std.specs.Prelude.{Bool, Err, List, None, Ok, Option, Result, Some, [], cond, false, is_some, map, nat_le, nat_lt, not, option_map, refl, suc, true, zero, ℕ, ⊤, ◌+◌, ◌++◌, ◌==◌, ◌∷◌, ◌≡◌}
use Rattle.std.specs.Bool.{then_some}
use Rattle.std.specs.Prelude.{option_and_then, slice_get}

-- WORDS

then-some : {A B : Type 0} (f : A → Option B) (o : Option A) (y : B) → option_and_then f o ≡ Some y → (x : A) × (o ≡ Some x) × (f x ≡ Some y)
then-some f None y h = absurd cc
then-some f (Some x) y h = (x, refl, h)

given-some : {A : Type 0} (b : Bool) (x y : A) → then_some b x ≡ Some y → (b ≡ true) × (x ≡ y)
given-some true x y h = (refl, cc)
given-some false x y h = absurd cc

map-some : {A B : Type 0} (f : A → B) (o : Option A) (y : B) → option_map f o ≡ Some y → (x : A) × (o ≡ Some x) × (f x ≡ y)
map-some f None y h = absurd cc
map-some f (Some x) y h = (x, refl, cc)

no-fault : {A : Type 0} (dev : ℕ) (o : Option A) (x : A) → ok_or o dev ≡ Ok x → o ≡ Some x
no-fault dev None x h = absurd cc
no-fault dev (Some y) x h = let same : y ≡ x = cc in ap Some same

sound-ok : {A B : Type 0} (f : A → Result B ℕ) (r : Result A ℕ) (y : B) → and_then r f ≡ Ok y → (x : A) × (r ≡ Ok x) × (f x ≡ Ok y)
sound-ok f (Err dev) y h = absurd cc
sound-ok f (Ok x) y h = (x, refl, h)

every-true : {A : Type 0} (p : A → Bool) (xs : List A) → list_all p xs ≡ true → Every (λ x. p x ≡ true) xs
every-true p [] h = tt
every-true p (x ∷ xs) h = (and_left _ _ h, every-true p xs (and_right (p x) _ h))

every-two : {A : Type 0} (P Q R : A → Type 0) → ((x : A) → P x → Q x → R x) → (xs : List A) → Every P xs → Every Q xs → Every R xs
every-two P Q R f [] h g = tt
every-two P Q R f (x ∷ xs) h g = (f x h.0 g.0, every-two P Q R f xs h.1 g.1)

-- THE LOG THAT COUNTS of a pair

module _ {L : Type 0} (P : L → Type 0) where
  abbrev IsContent : Content L → Type 0
  IsContent Blank = ⊤
  IsContent (IsRead x) = P x
  IsContent Outside = ⊤

  abbrev IsPair : Pair L → Type 0
  IsPair BothBlank = ⊤
  IsPair (Counts which x) = P x
  IsPair (Faulty which) = ⊤

  chosen-is : (s t : Bool) (a b : L) → P a → P b → IsPair (chosen s t a b)
  chosen-is true t a b h g = g
  chosen-is false true a b h g = h
  chosen-is false false a b h g = tt

  pair-is : (generation : L → ℕ) (a b : Content L) → IsContent a → IsContent b → IsPair (pair_of generation a b)
  pair-is generation Outside b h g = tt
  pair-is generation Blank Outside h g = tt
  pair-is generation (IsRead a) Outside h g = tt
  pair-is generation Blank Blank h g = tt
  pair-is generation Blank (IsRead b) h g = g
  pair-is generation (IsRead a) Blank h g = h
  pair-is generation (IsRead a) (IsRead b) h g = chosen-is (follows (generation a) (generation b)) (follows (generation b) (generation a)) a b h g

  content-is : (read : List (List ℕ) → Option L) → ((entries : List (List ℕ)) (x : L) → read entries ≡ Some x → P x) → (o : Option (List (List ℕ))) → IsContent (content_of read o)
  content-is read h None = tt
  content-is read h (Some []) = tt
  content-is read h (Some (entry ∷ entries)) = by (read (entry ∷ entries)) refl
    where
      by : (o : Option L) → read (entry ∷ entries) ≡ o → IsContent (read_or_outside o)
      by None e = tt
      by (Some x) e = h (entry ∷ entries) x e

module _ (read : List ℕ → Option Definition) (c : Coordinator Definition) where
  abbrev schema : List TableDef
  schema = tables_defined c.definitions

  change-fits : (p : ℕ) (ch : Change) → IsKeyed ch → is_sound_change (definitions_reading read) c p ch ≡ true → FitsAt schema (changed_at ch) ch.row
  change-fits p ch keyed h = by ch.row keyed (and_right (nat_lt ch.table ((definitions_reading read).count_tables c.definitions)) _ h)
    where
      by : (row : Option (List Value)) → IsKeyed (record ch { row = row }) → is_sound_to (definitions_reading read) c p (changed_at ch) row ≡ true → FitsAt schema (changed_at ch) row
      by None keyed g = g
      by (Some row) keyed g = record { fits = and_left (is_row_of (slice_get schema ch.table) row) _ g; key = keyed }

  -- THE TABLES of a partition

  decided-fit : (decided : List Id) (ps : List Prepared) → Every (λ (p : Prepared). AreChangesOf schema p.changes) ps → AreChangesOf schema (decided_changes decided ps)
  decided-fit decided [] h = tt
  decided-fit decided (p ∷ ps) h =
      every-append _ (changes_if (has_id p.unit decided) p.changes) (decided_changes decided ps) (by (has_id p.unit decided)) (decided-fit decided ps h.1)
    where
      by : (b : Bool) → AreChangesOf schema (changes_if b p.changes)
      by true = h.0
      by false = tt

  prepared-fit : (p : ℕ) (x : Prepared) → AreKeyed x → is_sound_prepared (definitions_reading read) c p x ≡ true → AreChangesOf schema x.changes
  prepared-fit p x keyed h =
      every-two IsKeyed (λ (ch : Change). is_sound_change (definitions_reading read) c p ch ≡ true) (λ (ch : Change). FitsAt schema (changed_at ch) ch.row) (change-fits p) x.changes keyed
      (every-true (is_sound_change (definitions_reading read) c p) x.changes (and_right (nat_le x.unit.boot c.log.told.boot) _ h))

  rows-keyed : (rows : List TableRow) → Every IsKeyed (map change_of_row rows)
  rows-keyed [] = tt
  rows-keyed (row ∷ rows) = (refl, rows-keyed rows)

  pages-fit : (p : ℕ) (log : PartitionLog) (pages : List ℕ) (rows : List Change) → rows_of_pages (definitions_reading read) c p log pages ≡ Some rows → AreChangesOf schema rows
  pages-fit p log pages rows h =
      let r = then-some (λ (found : List TableRow). then_some (are_sound_rows (definitions_reading read) c p (map change_of_row found)) (map change_of_row found))
      (rows_from (has_nulls log.header.format) pages 0 log.header.sides) rows h in
      let g = given-some (are_sound_rows (definitions_reading read) c p (map change_of_row r.0)) (map change_of_row r.0) rows r.2 in
      subst (AreChangesOf schema) g.1
      (every-two IsKeyed (λ (ch : Change). is_sound_change (definitions_reading read) c p ch ≡ true) (λ (ch : Change). FitsAt schema (changed_at ch) ch.row) (change-fits p) (map change_of_row r.0) (rows-keyed r.0)
      (every-true (is_sound_change (definitions_reading read) c p) (map change_of_row r.0) (and_left _ _ g.0)))

  log-fits : (p : ℕ) (log : PartitionLog) → IsLogKeyed log → is_sound_log (definitions_reading read) c p log ≡ true → Every (λ (x : Prepared). AreChangesOf schema x.changes) log.prepared
  log-fits p log keyed h =
      every-two AreKeyed (λ (x : Prepared). is_sound_prepared (definitions_reading read) c p x ≡ true) (λ (x : Prepared). AreChangesOf schema x.changes) (prepared-fit p) log.prepared keyed
      (every-true (is_sound_prepared (definitions_reading read) c p) log.prepared (and_right _ _ (and_right _ _ h)))

  judged-fits : (p : ℕ) (pages : List ℕ) (pair : Pair PartitionLog) (tables : Tables) → IsPair IsLogKeyed pair → judge_part (definitions_reading read) c p pages pair ≡ Ok tables → AreRowsOf schema tables
  judged-fits p pages BothBlank tables keyed h = absurd cc
  judged-fits p pages (Faulty which) tables keyed h = absurd cc
  judged-fits p pages (Counts which log) tables keyed h =
      let r = sound-ok _ (ok_or (then_some (is_sound_log (definitions_reading read) c p log) log) (device_of (part_device p) which)) tables h in
      let g = given-some (is_sound_log (definitions_reading read) c p log) log r.0 (no-fault (device_of (part_device p) which) _ r.0 r.1) in
      let m = map-some (part_tables (decided_for p c.log.told.decided) r.0) (rows_of_pages (definitions_reading read) c p r.0 pages) tables (no-fault (pages_device p) _ tables r.2) in
      let prepared = subst (λ (l : PartitionLog). Every (λ (x : Prepared). AreChangesOf schema x.changes) l.prepared) g.1 (log-fits p log keyed g.0) in
      subst (AreRowsOf schema) m.2
      (rows-changed schema (m.0 ++ decided_changes (decided_for p c.log.told.decided) r.0.prepared) no_rows
      (every-append _ m.0 _ (pages-fit p r.0 pages m.0 m.1) (decided-fit (decided_for p c.log.told.decided) r.0.prepared prepared)) tt)

  part-fits : (logs : Logs) (devices : ℕ → List ℕ) (p : ℕ) (tables : Tables) → part_at (definitions_reading read) c logs devices p ≡ Ok tables → AreRowsOf schema tables
  part-fits logs devices p tables h =
      judged-fits p (devices (pages_device p)) (part_pair p logs) tables
      (pair-is IsLogKeyed partition_generation _ _ (content-is IsLogKeyed (partition_in p) (log-keyed p) (logs (part_device p))) (content-is IsLogKeyed (partition_in p) (log-keyed p) (logs (part_device p + 1)))) h

  each-fits : (f : ℕ → Result Tables ℕ) → ((p : ℕ) (t : Tables) → f p ≡ Ok t → AreRowsOf schema t) → (p n : ℕ) (ts : List Tables) → each_from f p n ≡ Ok ts → Every (AreRowsOf schema) ts
  each-fits f h p zero ts e = let none : [] ≡ ts = cc in subst (Every (AreRowsOf schema)) none tt
  each-fits f h p (suc n) ts e =
      let a = sound-ok _ (f p) ts e in
      let b = sound-ok _ (each_from f (suc p) n) ts a.2 in
      let same : a.0 ∷ b.0 ≡ ts = let q = b.2 in cc in
      subst (Every (AreRowsOf schema)) same (h p a.0 a.1, each-fits f h (suc p) n b.0 b.1)

  put-fit : (es : List Entry) (t : Tables) → Every (λ (e : Entry). IsRowAt schema e.0 e.1) es → AreRowsOf schema t → AreRowsOf schema (put_entries es t)
  put-fit [] t h g = g
  put-fit (e ∷ es) t h g = every-put (IsRowAt schema) e.0 e.1 (put_entries es t).list h.0 (put-fit es t h.1 g)

  joined-fit : (ts : List Tables) → Every (AreRowsOf schema) ts → AreRowsOf schema (joined ts)
  unfolding joined
  joined-fit [] h = tt
  joined-fit (t ∷ ts) h = put-fit t.list (joined ts) h.0 (joined-fit ts h.1)

-- DEFINITIONS

-- what is kept of these definitions alone
abbrev pub defined : List Definition → Kept
defined ds = record nothing_kept { definitions = ds }

not-some : {A : Type 0} (o : Option A) → not (is_some o) ≡ true → o ≡ None
not-some None h = refl
not-some (Some x) h = absurd cc

module _ (read : List ℕ → Option Definition) (keys : (text : List ℕ) (d : TableDef) → read text ≡ Some (OfTable d) → has_key d.columns ≡ true) where
  one-defined : (ds : List Definition) (text : List ℕ) (d : Definition) → read text ≡ Some d → not (is_refused ds d) ≡ true → IsTyped (defined ds) → IsTyped (defined (ds ++ d ∷ []))
  unfolding line_fault
  one-defined ds text (OfTable d) e h typed =
      table-defined (defined ds) typed d (unmapped faulty (table_fault (tables_defined ds) d) (other_is_none (option_map of_kept (kept_limit (tables_defined ds))) _ (not-some _ h))) (keys text d e)
  one-defined ds text (OfProgram p) e h typed =
      program-defined (defined ds) typed p
      (unmapped of_program_fault (program_fault (tables_defined ds) (programs_defined ds) p) (other_is_none (option_map of_kept (program_kept_limit (programs_defined ds))) _ (not-some _ h)))

  all-defined : (o : Option (List Definition)) (texts : List NumberedText) (ds : List Definition) → ((old : List Definition) → o ≡ Some old → IsTyped (defined old)) →
      definitions_read (definitions_reading read) o texts ≡ Some ds → IsTyped (defined ds)
  all-defined o [] ds h e = h ds e
  all-defined o (t ∷ texts) ds h e = all-defined (define (definitions_reading read) t o) texts ds next e
    where
      next : (new : List Definition) → define (definitions_reading read) t o ≡ Some new → IsTyped (defined new)
      next new g =
          let a = then-some _ o new g in
          let b = then-some _ (read t.text) new a.2 in
          let d = given-some (not (is_refused a.0 b.0)) (a.0 ++ b.0 ∷ []) new b.2 in
          subst (λ (x : List Definition). IsTyped (defined x)) d.1 (one-defined a.0 t.text b.0 b.1 d.0 (h a.0 a.1))

  -- CONTINUATIONS

  module _ (ds : List Definition) (told : Told) (format : ℕ) where
    abbrev Fits : Cont → Type 0
    Fits c = is_cont_of (program_named (programs_defined ds) c.program) c ≡ true

    abbrev AllFit : Option (List Cont) → Type 0
    AllFit None = ⊤
    AllFit (Some cs) = Every Fits cs

    all-given : (b : Bool) (cs : List Cont) → Every Fits cs → AllFit (then_some b cs)
    all-given true cs h = h
    all-given false cs h = tt

    replaced : (c : Cont) (cs : List Cont) → Fits c → Every Fits cs → Every Fits (replace_cont c cs)
    replaced c [] h all = tt
    replaced c (d ∷ cs) h all = (by (is_same_id c.base d.base), replaced c cs h all.1)
      where
        by : (b : Bool) → Fits (cond b c d)
        by true = h
        by false = all.0

    goes-to : (c : Cont) (o : Option Cont) (cs : List Cont) → Fits c → Every Fits cs → AllFit (go_to c o cs)
    goes-to c None cs h all = all-given (list_all (is_accepted_before c) cs) (cs ++ c ∷ []) (every-append Fits cs (c ∷ []) all (h, tt))
    goes-to c (Some d) cs h all = all-given (c.accepted == d.accepted) (replace_cont c cs) (replaced c cs h all)

    ends : (b : Id) (o : Option Cont) (cs : List Cont) → Every Fits cs → AllFit (option_map (λ d. filter (is_not_of b) cs) o)
    ends b None cs all = tt
    ends b (Some d) cs all = every-filter Fits (is_not_of b) cs all

    made : (m : Move) (cs : List Cont) → Every Fits (conts_of_move (Some m)) → Every Fits cs → AllFit (make_move cs m)
    made Plain cs h all = all
    made (Continue c) cs h all = goes-to c (cont_in c.base cs) cs h.0 all
    made (Finish b) cs h all = ends b (cont_in b cs) cs all

    named : (cs : List Cont) → list_all (is_sound_cont (definitions_reading read) ds told) cs ≡ true → Every Fits cs
    named [] g = tt
    named (c ∷ cs) g = (and_left _ _ (and_left _ _ g), named cs (and_right (is_sound_cont (definitions_reading read) ds told c) _ g))

    one-moved : (d : Decision) (o : Option (List Cont)) → is_sound_decision (definitions_reading read) ds told format d ≡ true → AllFit o → AllFit (move_on format d o)
    one-moved d None h all = tt
    one-moved d (Some cs) h all = by (move_in format d.move) (and_right (nat_le d.unit.boot told.boot) _ h)
      where
        by : (m : Option Move) → list_all (is_sound_cont (definitions_reading read) ds told) (conts_of_move m) ≡ true → AllFit (option_and_then (make_move cs) m)
        by None g = tt
        by (Some m) g = made m cs (named (conts_of_move (Some m)) g) all

    all-moved : (o : Option (List Cont)) (decided : List Decision) → list_all (is_sound_decision (definitions_reading read) ds told format) decided ≡ true → AllFit o → AllFit (moved format o decided)
    all-moved o [] h all = all
    all-moved o (d ∷ decided) h all =
        all-moved (move_on format d o) decided (and_right (is_sound_decision (definitions_reading read) ds told format d) _ h) (one-moved d o (and_left _ _ h) all)

  -- THE COORDINATOR, and the whole

  pub record IsFoundTyped (c : Coordinator Definition) : Type 0 where
    pub definitions : IsTyped (defined c.definitions)
    pub conts : Every (λ (x : Cont). is_cont_of (program_named (programs_defined c.definitions) x.program) x ≡ true) c.conts

  abbrev with_conts : CoordinatorLog → List Definition → List Cont → Option (Coordinator Definition)
  with_conts log ds cs = then_some (are_sound (definitions_reading read) log ds) (record { log = log; definitions = ds; conts = cs })

  pub coordinator-typed : (log : CoordinatorLog) (c : Coordinator Definition) → coordinator_of (definitions_reading read) log ≡ Some c → IsFoundTyped c
  coordinator-typed log c h =
      let a = then-some (λ (ds : List Definition). option_and_then (with_conts log ds) (moved log.header.format (Some log.header.conts) log.told.decided)) (definitions_read (definitions_reading read) (Some []) log.told.definitions) c h in
      let b = then-some (with_conts log a.0) (moved log.header.format (Some log.header.conts) log.told.decided) c a.2 in
      let g = given-some (are_sound (definitions_reading read) log a.0) (record { log = log; definitions = a.0; conts = b.0 }) c b.2 in
      let sound = and_right _ _ g.0 in
      let all : AllFit a.0 log.told log.header.format (moved log.header.format (Some log.header.conts) log.told.decided) =
      all-moved a.0 log.told log.header.format (Some log.header.conts) log.told.decided
      (and_right (list_all (is_sound_cont (definitions_reading read) a.0 log.told) log.header.conts) _ sound) (named a.0 log.told log.header.format log.header.conts (and_left _ _ sound)) in
      subst IsFoundTyped g.1 (record {
        definitions = all-defined (Some []) log.told.definitions a.0 nothing a.1;
        conts = subst (AllFit a.0 log.told log.header.format) b.1 all;
      })
    where
      nothing : (old : List Definition) → Some [] ≡ Some old → IsTyped (defined old)
      nothing old e = let same : [] ≡ old = cc in subst (λ (x : List Definition). IsTyped (defined x)) same (record { tables = tt; programs = tt; rows = tt; conts = tt })

  counted-typed : (pair : Pair CoordinatorLog) (c : Coordinator Definition) → judge_coordinator (definitions_reading read) pair ≡ Ok (Some c) → IsFoundTyped c
  counted-typed BothBlank c h = absurd cc
  counted-typed (Faulty which) c h = absurd cc
  counted-typed (Counts which log) c h =
      let m = map-some Some (coordinator_of (definitions_reading read) log) (Some c) (no-fault (device_of 0 which) _ (Some c) h) in
      let same : m.0 ≡ c = let q = m.2 in cc in
      subst IsFoundTyped same (coordinator-typed log m.0 m.1)

  with-parts-typed : (logs : Logs) (devices : ℕ → List ℕ) (asked : Shape) (o : Option (Coordinator Definition)) (f : Found Definition) → coordinator_at (definitions_reading read) logs ≡ Ok o →
      with_parts (definitions_reading read) logs devices asked o ≡ Ok f → IsTyped (kept_in f)
  with-parts-typed logs devices asked None f e h =
      let same : nothing_found asked ≡ f = cc in
      subst (λ (x : Found Definition). IsTyped (kept_in x)) same (record { tables = tt; programs = tt; rows = tt; conts = tt })
  with-parts-typed logs devices asked (Some c) f e h =
      let is = counted-typed (coordinator_pair logs) c e in
      let r = sound-ok (λ (parts : List Tables). Ok (found_with c parts)) (parts_at (definitions_reading read) c logs devices) f h in
      let same : found_with c r.0 ≡ f = let q = r.2 in cc in
      subst (λ (x : Found Definition). IsTyped (kept_in x)) same (record {
        tables = is.definitions.tables;
        programs = is.definitions.programs;
        rows = joined-fit read c r.0 (each-fits read c (part_at (definitions_reading read) c logs devices) (part-fits read c logs devices) 0 c.log.header.shape.parts r.0 r.1);
        conts = is.conts;
      })

  pub found-typed : (devices : ℕ → List ℕ) (asked : Shape) (f : Found Definition) → stands_of (definitions_reading read) devices asked ≡ Some f → IsTyped (kept_in f)
  found-typed devices asked f h =
      let r = sound-ok (with_parts (definitions_reading read) (logs_of devices) devices asked) (coordinator_at (definitions_reading read) (logs_of devices)) f (ok (stands_on (definitions_reading read) devices asked) h) in
      with-parts-typed (logs_of devices) devices asked r.0 f r.1 r.2
    where
      ok : (r : Result (Found Definition) ℕ) → if_ok r ≡ Some f → r ≡ Ok f
      ok (Ok x) e = let same : x ≡ f = cc in ap Ok same
      ok (Err dev) e = absurd cc
