-- A unit that may be decided over what is kept may be committed in a store that holds it; and over disks that tell nothing, what can be
-- written.
use Rattle.salt_ast.specs.Judgement.{key_type, same_types}
use Rattle.salt_ast.specs.ProgramJudgement.{are_arguments, program_named}
use Rattle.salt_ast.specs.declared.programs.ProgramDef.{ProgramDef}
use Rattle.salt_ast.specs.declared.trees.ColType.{ColType}
use Rattle.salt_ast.specs.declared.trees.TableDef.{TableDef}
use Rattle.salt_bytes.specs.Conts.{move_in, spell_move}
use Rattle.salt_bytes.specs.Spellable as bytes
use Rattle.salt_bytes.specs.Values.{is_row_length}
use Rattle.salt_bytes.specs.declared.moves.Move.TheVariants.{Continue, Finish, Plain}
use Rattle.salt_bytes.specs.declared.moves.Move.{Move}
use Rattle.salt_codec.specs.Moves.{IsShort, IsShortMove}
use Rattle.salt_commit.specs.Commits.{MayCommitUnit, fits_its_part}
use Rattle.salt_commit.specs.Shares.{next_decision}
use Rattle.salt_commit.specs.Stores.{reading}
use Rattle.salt_model.specs.Reaches.{in_row}
use Rattle.salt_model.specs.Statements.{checked}
use Rattle.salt_stands.specs.Fitting.{are_of_columns, is_cont_of, is_key_of, is_row_of, programs_defined, tables_defined}
use Rattle.salt_devices.proofs.InHand.{all_stand}
use Rattle.salt_devices.proofs.Limits.{arguments_length, at_every, columns_length, few_columns, few_params, few_vars, short_name}
use Rattle.law_generations.specs.AsIf.{IsNewName}
use Rattle.salt_bytes.specs.Changes.{are_in_order}
use Rattle.salt_bytes.specs.Formats.{has_nulls}
use Rattle.salt_commit.specs.declared.store.Store.{Store}
use Rattle.salt_devices.proofs.Stores.{held_boot, held_conts, held_decisions, held_definitions, held_schema}
use Rattle.salt_devices.specs.Holding.{IsHeld, IsInShape}
use Rattle.salt_disk.specs.Disks.{View}
use Rattle.salt_stands.specs.Commits.{partition_count}
use Rattle.salt_codec.specs.Entries.{CanBePut}
use Rattle.salt_model.specs.Kept.{Definition, Kept, OfProgram, OfTable, Rise, cont_in, schema_of}
use Rattle.salt_model.specs.Tables.{changed_at}
use Rattle.salt_model.specs.Words.{Every}
use Rattle.salt_stands.proofs.Booleans.{join, left, right}
use Rattle.salt_stands.specs.Coordinator.{Coordinator, is_sound_cont}
use Rattle.salt_stands.specs.OpenConts.{conts_of_move, go_to, is_accepted_before, make_move, replace_cont}
use Rattle.salt_stands.specs.Pieces.{PartView, with_decision}
use Rattle.salt_stands.specs.Placed.{changes_at, is_of_part}
use Rattle.salt_storage.specs.Storing.{IsSpelledDefinition, MayDecide, decided}
use Rattle.salt_ast.specs.TokenSpelling.{same_bytes}
use Rattle.law_types.specs.Typed.{AreChangesOf, FitsAt, IsContOf, IsProperTable, has_key}
use Rattle.salt_values.specs.Id.{is_same_id}
use Rattle.salt_values.specs.Value.{is_null}
use Rattle.salt_values.specs.declared.change.Change.{Change}
use Rattle.salt_values.specs.declared.cont.Cont.{Cont}
use Rattle.salt_values.specs.declared.id.Id.{Id}
use Rattle.salt_place.specs.declared.placement.Shape.{Shape}
use Rattle.salt_values.specs.declared.value.Value.TheVariants.{Int, Null, Text}
use Rattle.salt_values.specs.declared.value.Value.{Value}
use Rattle.std.proofs.Common.{Bool, List, None, Option, Some, [], ap, arith, false, length, refl, subst, sym, true, ℕ, ◌+◌, ◌++◌, ◌<◌, ◌≡◌, ◌≤◌, ◌∙◌, ◌∷◌}
use Rattle.std.proofs.lemmas.Bool.Decides.{nat_tests}
use Rattle.std.specs.List.{filter, list_all}
use Rattle.std.specs.Prelude.{eqb, if◌then◌else◌, is_ok, nat_le, slice_get, suc, ◌&&◌, ◌==◌}
use Rattle.std.specs.Bool.{then_some}

-- THE CONTINUATION OF A MOVE is one of those that it leaves

every_last : (P : Cont → Type 0) (cs : List Cont) (c : Cont) → Every P (cs ++ c ∷ []) → P c
every_last P [] c h = h.0
every_last P (d ∷ cs) c h = every_last P cs c h.1

every_replaced : (P : Cont → Type 0) (c : Cont) (cs : List Cont) (d : Cont) → cont_in c.base cs ≡ Some d → Every P (replace_cont c cs) → P c
every_replaced P c [] d e h = absurd cc
every_replaced P c (x ∷ cs) d e h = by (is_same_id c.base x.base) refl e h (λ e' h'. every_replaced P c cs d e' h')
  where
    by : (b : Bool) → is_same_id c.base x.base ≡ b → (if b then Some x else cont_in c.base cs) ≡ Some d → Every P ((if b then c else x) ∷ replace_cont c cs) → (cont_in c.base cs ≡ Some d → Every P (replace_cont c cs) → P c) → P c
    by true same e' h' more = h'.0
    by false same e' h' more = more e' h'.1

given_is : {A : Type 0} (b : Bool) (x y : A) → then_some b x ≡ Some y → x ≡ y
given_is true x y e = cc
given_is false x y e = absurd cc

pub every_made : (P : Cont → Type 0) (c : Cont) (cs conts : List Cont) → make_move cs (Continue c) ≡ Some conts → Every P conts → P c
every_made P c cs conts e h = by (cont_in c.base cs) refl e
  where
    by : (o : Option Cont) → cont_in c.base cs ≡ o → go_to c o cs ≡ Some conts → P c
    by None is m = every_last P cs c (subst (Every P) (sym (given_is (list_all (is_accepted_before c) cs) (cs ++ c ∷ []) conts m)) h)
    by (Some d) is m = every_replaced P c cs d is (subst (Every P) (sym (given_is (c.accepted == d.accepted) (replace_cont c cs) conts m)) h)

accepted_within : (n : ℕ) (cs : List Cont) → Rise n cs → Every (λ (c : Cont). c.accepted ≤ n) cs
accepted_within n [] h = tt
accepted_within n (c ∷ cs) h = (h.1, accepted_within n cs h.2)

-- CHANGES CAN BE PUT

no_type : (t : Option ColType) → same_types t None ≡ true → ⊥
no_type None e = absurd cc
no_type (Some a) e = absurd cc

key_is_some : (o : Option TableDef) (key : Value) → is_key_of o key ≡ true → is_null key ≡ false
key_is_some None key e = absurd cc
key_is_some (Some d) (Int z) e = refl
key_is_some (Some d) (Text t) e = refl
key_is_some (Some d) Null e = absurd (no_type (key_type d.columns) e)

row_length : (d : TableDef) (row : List Value) → has_key d.columns ≡ true → length d.columns ≤ 16 → length row ≡ length d.columns → is_row_length (length row) ≡ true
row_length d row key few same = by d.columns key few same
  where
    by : (fs : List Rattle.salt_ast.specs.declared.trees.Field.Field) → has_key fs ≡ true → length fs ≤ 16 → length row ≡ length fs → is_row_length (length row) ≡ true
    by [] k f s = absurd cc
    by (x ∷ fs) k f s = join (nat_le 1 (length row)) (nat_le (length row) 16) (le 1 (length row) (omega (arith, s))) (le (length row) 16 (omega (arith, s, f)))
      where
        le : (a b : ℕ) → a ≤ b → nat_le a b ≡ true
        le a b h = grind (arith, nat_tests)

-- the tables of definitions that texts spell are within the limits
spelled_tables : (ds : List Definition) → Every IsSpelledDefinition ds → Every (λ (d : TableDef). length d.columns ≤ 16) (tables_defined ds)
spelled_tables [] h = tt
spelled_tables (OfTable d ∷ ds) h = (few_columns d h.0.within, spelled_tables ds h.1)
spelled_tables (OfProgram p ∷ ds) h = spelled_tables ds h.1

record IsSmall (p : ProgramDef) : Type 0 where
  pub name : length p.name ≤ 32
  pub params : length p.params ≤ 16
  pub vars : length p.vars ≤ 16

spelled_programs : (ds : List Definition) → Every IsSpelledDefinition ds → Every IsSmall (programs_defined ds)
spelled_programs [] h = tt
spelled_programs (OfTable d ∷ ds) h = spelled_programs ds h.1
spelled_programs (OfProgram p ∷ ds) h = (record { name = short_name p h.0.within; params = few_params p h.0.within; vars = few_vars p h.0.within }, spelled_programs ds h.1)

-- the table has a key and is small
record IsPlain (d : TableDef) : Type 0 where
  pub key : has_key d.columns ≡ true
  pub few : length d.columns ≤ 16

plain_tables : (ts : List TableDef) → Every IsProperTable ts → Every (λ (d : TableDef). length d.columns ≤ 16) ts → Every IsPlain ts
plain_tables [] p f = tt
plain_tables (t ∷ ts) p f = (record { key = p.0.key; few = f.0 }, plain_tables ts p.1 f.1)

put_row : (schema : List TableDef) (table : ℕ) (row : List Value) → Every IsPlain schema → is_row_of (slice_get schema table) row ≡ true → is_row_length (length row) ≡ true
put_row schema table row plain fits = by (slice_get schema table) refl fits
  where
    by : (o : Option TableDef) → slice_get schema table ≡ o → is_row_of o row ≡ true → is_row_length (length row) ≡ true
    by None is e = absurd cc
    by (Some d) is e =
        let p = at_every IsPlain schema table d plain is in
        row_length d row p.key p.few (columns_length d.columns row (left (are_of_columns d.columns row) (is_ok (checked (in_row d row []) d.checks)) e))

put_change : (schema : List TableDef) (c : Change) → Every IsPlain schema → FitsAt schema (changed_at c) c.row → CanBePut true c
put_change schema c plain fits = by c.row fits
  where
    by : (o : Option (List Value)) → FitsAt schema (changed_at c) o → Rattle.salt_codec.specs.Entries.IsPutTo true c.key o
    by None h = key_is_some (slice_get schema c.table) c.key h
    by (Some row) h = (put_row schema c.table row plain h.fits, sym h.key, all_stand row)

put_changes : (schema : List TableDef) (cs : List Change) → Every IsPlain schema → AreChangesOf schema cs → bytes.Every (CanBePut true) cs
put_changes schema [] plain h = tt
put_changes schema (c ∷ cs) plain h = (put_change schema c plain h.0, put_changes schema cs plain h.1)

every_filter : (P : Change → Type 0) (f : Change → Bool) (xs : List Change) → bytes.Every P xs → bytes.Every P (filter f xs)
every_filter P f [] h = tt
every_filter P f (x ∷ xs) h = by (f x) (every_filter P f xs h.1)
  where
    by : (b : Bool) → bytes.Every P (filter f xs) → bytes.Every P (if b then x ∷ filter f xs else filter f xs)
    by true more = (h.0, more)
    by false more = more

-- MOVES ARE SHORT

same_length : (xs ys : List ℕ) → same_bytes xs ys ≡ true → length xs ≡ length ys
same_length [] [] e = refl
same_length [] (y ∷ ys) e = absurd cc
same_length (x ∷ xs) [] e = absurd cc
same_length (x ∷ xs) (y ∷ ys) e = ap suc (same_length xs ys (right (eqb x y) (same_bytes xs ys) e))

record IsSmallNamed (name : List ℕ) (p : ProgramDef) : Type 0 where
  pub small : IsSmall p
  pub same : length name ≡ length p.name

small_named : (ps : List ProgramDef) (name : List ℕ) (p : ProgramDef) → Every IsSmall ps → program_named ps name ≡ Some p → IsSmallNamed name p
small_named [] name p all e = absurd cc
small_named (q ∷ ps) name p all e = by (same_bytes name q.name) refl e (λ e'. small_named ps name p all.1 e')
  where
    by : (b : Bool) → same_bytes name q.name ≡ b → (if b then Some q else program_named ps name) ≡ Some p → (program_named ps name ≡ Some p → IsSmallNamed name p) → IsSmallNamed name p
    by true is e' more = let same : q ≡ p = cc e' in subst (IsSmallNamed name) same (record { small = all.0; same = same_length name q.name is })
    by false is e' more = more e'

short_cont : (ds : List Definition) (c : Cont) → Every IsSpelledDefinition ds → is_cont_of (program_named (programs_defined ds) c.program) c ≡ true → IsShort c
short_cont ds c spelled fits = by (program_named (programs_defined ds) c.program) refl fits
  where
    by : (o : Option ProgramDef) → program_named (programs_defined ds) c.program ≡ o → is_cont_of o c ≡ true → IsShort c
    by None is e = absurd cc
    by (Some p) is e =
        let s = small_named (programs_defined ds) c.program p (spelled_programs ds spelled) is in
        let args = arguments_length p.params c.args (left _ _ e) in
        let vars = arguments_length p.vars c.vars (left _ _ (right (are_arguments p.params c.args) _ e)) in
        record {
          program = omega (arith, s.same, s.small.name);
          args = omega (arith, args, s.small.params);
          vars = omega (arith, vars, s.small.vars);
        }

pub short_move : (k : Kept) (u : Id) (cs : List Change) (m : Move) (conts : List Cont) → MayDecide k u cs m conts → IsShortMove m
short_move k u cs Plain conts may = tt
short_move k u cs (Continue c) conts may = short_cont k.definitions c may.sound.spelled (every_made (IsContOf (decided k cs conts)) c k.conts conts may.moves may.sound.typed.conts)
short_move k u cs (Finish b) conts may = tt

-- WHAT A UNIT NEEDS

-- with NULL spelled in each partition, its share can be put
pub put_shares : (shape : Shape) (c : Coordinator Definition) (v : ℕ → PartView) (cs : List Change) → IsInShape shape c v → bytes.Every (CanBePut true) cs
    → (p : ℕ) → p < partition_count c → bytes.Every (CanBePut (has_nulls (v p).log.header.format)) (changes_at c.log.header.shape p cs)
put_shares shape c v cs n put p low = subst (λ b. bytes.Every (CanBePut b) (changes_at c.log.header.shape p cs)) (sym (n.nulls p low)) (every_filter (CanBePut true) (is_of_part c.log.header.shape p) cs put)

-- WHERE THE DISKS TELL
module _ (d : View) (shape : Shape) (x : Store) (k : Kept) (h : IsHeld d shape x k) (u : Id) (cs : List Change) (m : Move) (conts : List Cont) (may : MayDecide k u cs m conts) where
  abbrev c : Coordinator Definition
  c = h.c

  le : (a b : ℕ) → a ≤ b → nat_le a b ≡ true
  le a b h = grind (arith, nat_tests)

  names_sound : (mv : List ℕ) (m' : Move) → make_move k.conts m' ≡ Some conts → list_all (is_sound_cont reading c.definitions (with_decision c (next_decision c u cs mv) conts).log.told) (conts_of_move (Some m')) ≡ true
  names_sound mv Plain moves = refl
  names_sound mv (Finish b) moves = refl
  names_sound mv (Continue y) moves =
      let now = decided k cs conts in
      let boots : y.base.boot ≤ k.boot = every_made (λ z. z.base.boot ≤ k.boot) y k.conts conts moves may.sound.well.boots in
      let numbers : y.accepted ≤ k.decisions + 1 = every_made (λ z. z.accepted ≤ k.decisions + 1) y k.conts conts moves (accepted_within (k.decisions + 1) conts may.sound.well.accepted) in
      let fits : is_cont_of (program_named (programs_defined k.definitions) y.program) y ≡ true = every_made (IsContOf now) y k.conts conts moves may.sound.typed.conts in
      join (is_sound_cont reading c.definitions (with_decision c (next_decision c u cs mv) conts).log.told y) true
      (join (is_cont_of (program_named (programs_defined c.definitions) y.program) y) (nat_le y.base.boot c.log.told.boot && nat_le y.accepted (c.log.told.decisions + 1))
      (subst (λ (ds : List Definition). is_cont_of (program_named (programs_defined ds) y.program) y ≡ true) (sym (held_definitions d shape x k h)) fits)
      (join (nat_le y.base.boot c.log.told.boot) (nat_le y.accepted (c.log.told.decisions + 1))
      (le y.base.boot c.log.told.boot (subst (λ n. y.base.boot ≤ n) (sym (held_boot d shape x k h)) boots))
      (le y.accepted (c.log.told.decisions + 1) (subst (λ n. y.accepted ≤ n + 1) (sym (held_decisions d shape x k h)) numbers))))
      refl

  pub may_commit_held : IsNewName c h.v u → move_in 3 (spell_move 3 m) ≡ Some m → (AreChangesOf (tables_defined c.definitions) cs → list_all (fits_its_part reading c) cs ≡ true)
      → MayCommitUnit d.told reading c h.v u cs (spell_move 3 m) m conts
  may_commit_held fresh reads sound = record {
    boot = λ told. subst (λ n. u.boot ≤ n) (sym (held_boot d shape x k h)) may.boot;
    fresh = fresh.fresh;
    new = fresh.new;
    ordered = may.ordered;
    fits = λ told. sound (subst (λ s. AreChangesOf s cs) (held_schema d shape x k h) may.fits);
    put = put_shares shape c h.v cs h.newest (put_changes (schema_of k) cs (plain_tables (schema_of k) h.kept.typed.tables (spelled_tables k.definitions h.kept.spelled)) may.fits);
    spells = λ told. ap (λ f. move_in f (spell_move 3 m)) h.newest.format ∙ reads;
    moves = λ told. ap (λ cs'. make_move cs' m) (held_conts d shape x k h) ∙ may.moves;
    named = λ told. names_sound (spell_move 3 m) m may.moves;
  }

-- WHERE THEY DO NOT, it is what can be written
pub may_commit_mute : (told : Bool) (shape : Shape) (c : Coordinator Definition) (v : ℕ → PartView) (u : Id) (cs : List Change) (mv : List ℕ) (m : Move) → told ≡ false → IsInShape shape c v → IsNewName c v u → are_in_order cs ≡ true → bytes.Every (CanBePut true) cs
    → MayCommitUnit told reading c v u cs mv m c.conts
may_commit_mute told shape c v u cs mv m mute n fresh ordered put = record {
  boot = λ is. absurd (cc (is, mute));
  fresh = fresh.fresh;
  new = fresh.new;
  ordered = ordered;
  fits = λ is. absurd (cc (is, mute));
  put = put_shares shape c v cs n put;
  spells = λ is. absurd (cc (is, mute));
  moves = λ is. absurd (cc (is, mute));
  named = λ is. absurd (cc (is, mute));
}
