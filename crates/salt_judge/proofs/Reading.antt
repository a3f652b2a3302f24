-- What is known of who read from whom goes on, and is judged as the trace is.
use Rattle.law_states.specs.Overlays.{Edit, edit_of, edits_of}
use Rattle.salt_audit.specs.Formed.{is_formed_by}
use Rattle.salt_audit.specs.Laws.{changed_in, changers_in, in_chains, is_tied, read_from, unsalted, written_from}
use Rattle.salt_audit.specs.Retelling.{told}
use Rattle.salt_audit.specs.Standing.{begun_in}
use Rattle.salt_audit.specs.declared.state.Begun.{Begun}
use Rattle.salt_model.specs.After.{reach_now}
use Rattle.salt_model.specs.Isolation.{is_program_released}
use Rattle.salt_model.specs.Programs.{freed_by, programs_in, released_in, shares}
use Rattle.salt_model.specs.Reaches.{reach}
use Rattle.salt_model.specs.Reads as model
use Rattle.salt_model.specs.Reads.{last_of_each, is_written_at, written_at}
use Rattle.salt_model.specs.Tables.{is_within}
use Rattle.salt_model.specs.Trace.{Trace, ◌says◌}
use Rattle.salt_model.specs.Units.{is_of_program, is_open, kind_of, program_of, program_of_kind}
use Rattle.salt_model.specs.Words.{widened}
use Rattle.salt_model.specs.declared.events.End.TheVariants as end
use Rattle.salt_model.specs.declared.events.End.{End}
use Rattle.salt_model.specs.declared.events.Event.TheVariants as event
use Rattle.salt_model.specs.declared.events.Event.{Event}
use Rattle.salt_model.specs.declared.events.UnitKind.{UnitKind}
use Rattle.salt_model.specs.declared.locks.Reach.{Reach}
use Rattle.salt_values.specs.Id.{has_id, is_same_id, without}
use Rattle.salt_values.specs.declared.change.Change.{Change}
use Rattle.salt_values.specs.declared.id.Id.{Id}
use Rattle.salt_verdict.proofs.Active.{does_open, ends_open, new_unit}
use Rattle.salt_verdict.proofs.Going.{kind_noted, kind_same, run_same}
use Rattle.salt_audit.proofs.Marking.{or_group}
use Rattle.salt_verdict.proofs.Listed.{begun_listed, has_app, or_swap}
use Rattle.salt_verdict.specs.Ledger.{HoldsTrace, run_by}
use Rattle.salt_judge.specs.ReadAfter.{IsReadAfter, changers, is_written_within, last_by, openings_by, parts_by, put_edits, reach_by, released_by, sources_as, sources_by, writing_of, written_first}
use Rattle.salt_audit.specs.Marks.{is_marked}
use Rattle.salt_judge.specs.Reads.{HoldsReads, chained, freed_in, is_free, is_named, is_tied_by, program_in, program_noted, shares_program, sources_in, unsalted_by, unsalted_of, units_read, writing_told}
use Rattle.salt_judge.specs.Searching.{IsLinked}
use Rattle.salt_verdict.specs.declared.ledger.Ledger.{Ledger}
use Rattle.salt_judge.specs.declared.reads.Opening.{Opening}
use Rattle.salt_judge.specs.declared.reads.Reads.{Reads}
use Rattle.salt_judge.specs.declared.reads.Sources.{Sources}
use Rattle.salt_judge.specs.declared.reads.Writing.{Writing}
use Rattle.salt_audit.proofs.Amiss.{id_is}
use Rattle.salt_audit.specs.Order.{id_cmp}
use Rattle.std.specs.BTreeMap.{BTreeMap, get}
use Rattle.std.proofs.Common.{Bool, List, None, Option, Some, [], ap, append-nil, append_assoc, arith, cond, drop, drop-cons, false, get_or, if◌then◌else◌, is_none, is_some, length, map, not, option_and_then, refl, subst, suc, sym, take, true, ℕ, ◌+◌, ◌<◌, ◌&&◌, ◌++◌, ◌∙◌, ◌∷◌, ◌≡◌, ◌||◌}
use Rattle.std.proofs.lemmas.List.{take_more}
use Rattle.std.proofs.lemmas.List.Elements.{filter_more}
use Rattle.std.specs.List.{filter, list_all}
use Rattle.std.specs.Bool.{then_some}
use Rattle.std.specs.Option.{option_map_or, option_or}

-- WRITINGS

told_filtered : (p : model.Written → Bool) (ws : List Writing) → filter p (map writing_told ws) ≡ map writing_told (filter (λ (w : Writing). p (writing_told w)) ws)
told_filtered p [] = refl
told_filtered p (w ∷ ws) = by (p (writing_told w)) (told_filtered p ws)
  where
    by : (t : Bool) → filter p (map writing_told ws) ≡ map writing_told (filter (λ (v : Writing). p (writing_told v)) ws) →
        cond t (writing_told w ∷ filter p (map writing_told ws)) (filter p (map writing_told ws))
        ≡ map writing_told (cond t (w ∷ filter (λ (v : Writing). p (writing_told v)) ws) (filter (λ (v : Writing). p (writing_told v)) ws))
    by true more = ap (λ l. writing_told w ∷ l) more
    by false more = more

units_told : (ws : List Writing) → map (λ (w : model.Written). w.unit) (map writing_told ws) ≡ map (λ (w : Writing). w.unit) ws
units_told [] = refl
units_told (w ∷ ws) = ap (λ l. w.unit ∷ l) (units_told ws)

last_put : (u : Id) (ds : List Edit) (ws : List model.Written) (last : List Writing) → last_of_each ws ≡ map writing_told last →
    last_of_each (written_from u ds ++ ws) ≡ map writing_told (put_edits u ds last)
last_put u [] ws last h = h
last_put u (d ∷ ds) ws last h =
    let w = writing_told (writing_of u d) in
    ap (λ (l : List model.Written). w ∷ filter (λ v. not (is_written_at (written_at w) v)) l) (last_put u ds ws last h)
    ∙ ap (λ (l : List model.Written). w ∷ l) (told_filtered (λ v. not (is_written_at (written_at w) v)) (put_edits u ds last))

-- LISTS THAT GROW

map_app : {A B : Type 0} (f : A → B) (xs ys : List A) → map f (xs ++ ys) ≡ map f xs ++ map f ys
map_app f [] ys = refl
map_app {B} f (x ∷ xs) ys = ap (λ (l : List B). f x ∷ l) (map_app f xs ys)

-- of a list filtered and then mapped, one more
pub mapped_more : {A B : Type 0} (f : A → B) (p : A → Bool) (xs : List A) (i : ℕ) (d : A) → i < length xs →
    map f (filter p (take i xs)) ++ (if p (get_or xs i d) then f (get_or xs i d) ∷ [] else []) ≡ map f (filter p (take (i + 1) xs))
mapped_more {A} f p xs i d within =
    let x = get_or xs i d in
    sym (ap (map f) (filter_more p xs i d within) ∙ map_app f (filter p (take i xs)) (cond (p x) (x ∷ []) []) ∙ ap (λ l. map f (filter p (take i xs)) ++ l) (by (p x)))
  where
    by : (t : Bool) → map f (cond t (get_or xs i d ∷ []) []) ≡ (if t then f (get_or xs i d) ∷ [] else [])
    by true = refl
    by false = refl

freed_app : (bs : List Id) (os : List Opening) (o : Opening) → freed_in bs (os ++ o ∷ []) ≡ freed_in bs os ++ (if shares o.named bs then o.passed else [])
freed_app bs [] o = by (shares o.named bs)
  where
    by : (t : Bool) → (if t then o.passed ++ [] else []) ≡ (if t then o.passed else [])
    by true = append-nil o.passed
    by false = refl
freed_app bs (p ∷ os) o = by (shares p.named bs) (freed_app bs os o)
  where
    rest : List Id
    rest = if shares o.named bs then o.passed else []

    by : (t : Bool) → freed_in bs (os ++ o ∷ []) ≡ freed_in bs os ++ rest →
        (if t then p.passed ++ freed_in bs (os ++ o ∷ []) else freed_in bs (os ++ o ∷ [])) ≡ (if t then p.passed ++ freed_in bs os else freed_in bs os) ++ rest
    by true more = ap (λ (l : List Id). p.passed ++ l) more ∙ sym (append_assoc p.passed (freed_in bs os) rest)
    by false more = more

pub freed_more : (bs : List Id) (os : List Opening) (i : ℕ) (d : Opening) → i < length os →
    freed_in bs (take i os) ++ (if shares (get_or os i d).named bs then (get_or os i d).passed else []) ≡ freed_in bs (take (i + 1) os)
freed_more bs os i d within = sym (ap (freed_in bs) (take_more os i d within) ∙ freed_app bs (take i os) (get_or os i d))

-- a change put before those behind it
pub edits_less : (u : Id) (cs : List Change) (last : List Writing) (i : ℕ) (d : Change) → i < length cs →
    written_first (writing_of u (edit_of (get_or cs i d))) (put_edits u (edits_of (drop (i + 1) cs)) last) ≡ put_edits u (edits_of (drop i cs)) last
edits_less u cs last i d within =
    let next : i + 1 ≡ suc i = omega arith in
    ap (λ (n : ℕ). written_first (writing_of u (edit_of (get_or cs i d))) (put_edits u (edits_of (drop n cs)) last)) next
    ∙ sym (ap (λ (l : List Change). put_edits u (edits_of l) last) (drop-cons cs i d within))

-- SOURCES

pub sources_put : (old : BTreeMap Id Sources) (u v : Id) (more units : List Id) (t : Bool) → is_same_id u v ≡ t → units ≡ more ++ sources_in v old →
    units_read (if t then Some (sources_as units) else get id_cmp old u) ≡ (if t then more ++ sources_in u old else sources_in u old)
sources_put old u v more units true same is = is ∙ ap (λ (x : Id). more ++ sources_in x old) (sym (id_is u v same))
sources_put old u v more units false other is = refl

-- PROGRAMS

named_same : (b : Id) (o : Option Id) → (elim o as (λ _. Bool) [ None ↦ false | Some c ↦ is_same_id b c ]) ≡ is_named b o
named_same b None = refl
named_same b (Some c) = refl

-- THE STEP

module _ (l : Ledger) (r : Reads) (trace : Trace) (h : HoldsTrace l trace) (k : HoldsReads r trace) where
  changers_same : (o : Option Reach) → changers_in trace o ≡ changers r.last.items o
  changers_same None = refl
  changers_same (Some c) =
      ap (λ (ws : List model.Written). map (λ (w : model.Written). w.unit) (filter (λ w. is_within c (written_at w)) ws)) k.last
      ∙ ap (map (λ (w : model.Written). w.unit)) (told_filtered (λ w. is_within c (written_at w)) r.last.items)
      ∙ units_told (filter (is_written_within c) r.last.items)

  last_end : (u : Id) (e : End) → is_open trace u ≡ true → last_of_each (changed_in (told trace (event.Ended u e))) ≡ map writing_told (last_by (event.Ended u e) l r.last.items)
  last_end u (end.Committed n) runs =
      ap (λ (ds : List Edit). last_of_each (written_from u ds ++ changed_in trace)) (λ i. (run_same l trace h u runs i).changes.list)
      ∙ last_put u (run_by l u).changes.list (changed_in trace) r.last.items k.last
  last_end u (end.Failed c) runs = k.last
  last_end u (end.Branched n c) runs = k.last
  last_end u end.Cut runs = k.last
  last_end u end.RolledBack runs = k.last
  last_end u end.Victim runs = k.last

  -- the subtransactions of a program, with a unit that begins
  began_parts : (v : Id) (kind : UnitKind) → kind_of v trace ≡ None → (b w : Id) → is_of_program b (told trace (event.Began v kind)) w ≡ has_id w (parts_by (event.Began v kind) r.parts b)
  began_parts v kind none b w =
      named_same b (option_and_then program_of_kind (option_or (then_some (is_same_id w v) kind) (kind_of w trace)))
      ∙ by (is_same_id w v) refl (is_named b (program_of_kind kind)) refl
    where
      before : is_named b (program_of w trace) ≡ has_id w (sources_in b r.parts)
      before = sym (named_same b (program_of w trace)) ∙ k.parts b w

      by : (t : Bool) → is_same_id w v ≡ t → (s : Bool) → is_named b (program_of_kind kind) ≡ s →
          is_named b (option_and_then program_of_kind (option_or (then_some t kind) (kind_of w trace))) ≡ has_id w (if s then v ∷ sources_in b r.parts else sources_in b r.parts)
      by true same true is = is ∙ sym (ap (λ (t : Bool). t || has_id w (sources_in b r.parts)) same)
      by true same false is =
          let nothing : kind_of w trace ≡ None = subst (λ (u : Id). kind_of u trace ≡ None) (sym (id_is w v same)) none in
          is ∙ sym (ap (λ (o : Option UnitKind). is_named b (option_and_then program_of_kind o)) nothing) ∙ before
      by false other true is = before ∙ sym (ap (λ (t : Bool). t || has_id w (sources_in b r.parts)) other)
      by false other false is = before

  released_more : (bs : List Id) (b : Id) → has_id b (freed_by bs trace ++ (released_in trace ++ bs)) ≡ (has_id b bs || (has_id b (freed_in bs r.openings) || is_marked b r.released))
  released_more bs b =
      has_app b (freed_by bs trace) (released_in trace ++ bs)
      ∙ ap (λ (t : Bool). has_id b (freed_by bs trace) || t) (has_app b (released_in trace) bs)
      ∙ (λ i. has_id b (k.freed bs i) || (k.released b i || has_id b bs))
      ∙ or_group (has_id b (freed_in bs r.openings)) (is_marked b r.released) (has_id b bs)
      ∙ or_swap (has_id b (freed_in bs r.openings) || is_marked b r.released) (has_id b bs)

  ready_more : (b : Id) → has_id b (released_in trace ++ programs_in trace) ≡ (has_id b l.state.bases || is_marked b r.released)
  ready_more b =
      has_app b (released_in trace) (programs_in trace) ∙ (λ i. k.released b i || has_id b (h.knows.bases i)) ∙ or_swap (is_marked b r.released) (has_id b l.state.bases)

  record Goes (e : Event) : Type 0 where
    last : last_of_each (changed_in (told trace e)) ≡ map writing_told (last_by e l r.last.items)
    sources : (u : Id) → read_from u (told trace e) ≡ sources_by e l r.last.items r.sources u
    released : (b : Id) → has_id b (released_in (told trace e)) ≡ released_by e l.state.bases r.openings r.released b
    freed : (bs : List Id) → freed_by bs (told trace e) ≡ freed_in bs (openings_by e l.state.bases r.openings)
    parts : (b v : Id) → is_of_program b (told trace e) v ≡ has_id v (parts_by e r.parts b)

  goes : (e : Event) → is_formed_by trace e ≡ true → Goes e
  goes (event.Did v st x) f = record {
    last = k.last;
    sources = λ u.
        let at : changers_in trace (reach_now v trace st) ≡ changers r.last.items (reach_by l v st) =
        ap (changers_in trace) (λ i. reach (h.knows.schema i) (run_same l trace h v (does_open trace v st x f) i).vars st) ∙ changers_same (reach_by l v st) in
        (λ i. if is_same_id u v then at i ++ k.sources u i else k.sources u i);
    released = k.released;
    freed = k.freed;
    parts = k.parts;
  }
  goes (event.Ended u e) f = record { last = last_end u e (ends_open trace u e f); sources = k.sources; released = k.released; freed = k.freed; parts = k.parts }
  goes (event.Released bs) f = record { last = k.last; sources = k.sources; released = released_more bs; freed = k.freed; parts = k.parts }
  goes (event.Early names) f = record {
    last = k.last;
    sources = k.sources;
    released = k.released;
    freed = λ bs. λ i. if shares names bs then without names (h.knows.bases i) ++ k.freed bs i else k.freed bs i;
    parts = k.parts;
  }
  goes event.Ready f = record { last = k.last; sources = k.sources; released = ready_more; freed = k.freed; parts = k.parts }
  goes (event.Began u kind) f = record {
    last = k.last;
    sources = k.sources;
    released = k.released;
    freed = k.freed;
    parts = began_parts u kind (new_unit trace u kind f);
  }
  goes (event.Waits u os) f = record { last = k.last; sources = k.sources; released = k.released; freed = k.freed; parts = k.parts }
  goes (event.Accepted b) f = record { last = k.last; sources = k.sources; released = k.released; freed = k.freed; parts = k.parts }
  goes (event.Finished b) f = record { last = k.last; sources = k.sources; released = k.released; freed = k.freed; parts = k.parts }
  goes (event.Down w) f = record { last = k.last; sources = k.sources; released = k.released; freed = k.freed; parts = k.parts }
  goes (event.Opened boot n) f = record { last = k.last; sources = k.sources; released = k.released; freed = k.freed; parts = k.parts }
  goes (event.Defined n text) f = record { last = k.last; sources = k.sources; released = k.released; freed = k.freed; parts = k.parts }
  goes (event.Refused x) f = record { last = k.last; sources = k.sources; released = k.released; freed = k.freed; parts = k.parts }
  goes (event.Armed pairs) f = record { last = k.last; sources = k.sources; released = k.released; freed = k.freed; parts = k.parts }
  goes (event.Shown items) f = record { last = k.last; sources = k.sources; released = k.released; freed = k.freed; parts = k.parts }

  pub reads_on : (s : Reads) (e : Event) → is_formed_by trace e ≡ true → IsReadAfter l r s e → HoldsReads s (told trace e)
  reads_on s e f after =
      let g = goes e f in
      record {
        last = g.last ∙ ap (map writing_told) (sym after.last);
        sources = λ u. g.sources u ∙ sym (after.sources u);
        released = λ b. g.released b ∙ sym (after.released b);
        freed = λ bs. g.freed bs ∙ ap (freed_in bs) (sym after.openings);
        parts = λ b v. g.parts b v ∙ ap (has_id v) (sym (after.parts b));
      }

-- THE JUDGE

is_noted : (o : Option Begun) → is_some (kind_noted o) ≡ is_some o
is_noted None = refl
is_noted (Some n) = refl

noted_program : (o : Option Begun) → option_and_then program_of_kind (kind_noted o) ≡ program_noted o
noted_program None = refl
noted_program (Some n) = refl

pub program_same : (l : Ledger) (trace : Trace) (h : HoldsTrace l trace) (u : Id) → program_of u trace ≡ program_in l u
program_same l trace h u =
    ap (option_and_then program_of_kind) (kind_same trace u (begun_in u l.state.units) (h.knows.units u)) ∙ noted_program (begun_in u l.state.units)

module _ (l : Ledger) (r : Reads) (trace : Trace) (h : HoldsTrace l trace) (k : HoldsReads r trace) where
  pub linked : IsLinked l r
  linked = record {
    begun = λ v.
        sym (is_noted (begun_in v l.state.units)) ∙ ap (λ (o : Option UnitKind). is_some o) (sym (kind_same trace v (begun_in v l.state.units) (h.knows.units v)))
        ∙ begun_listed trace v ∙ ap (has_id v) h.order;
    parts = λ b v. sym (k.parts b v) ∙ named_same b (program_of v trace) ∙ ap (is_named b) (program_same l trace h v);
  }

  shares_same : (v : Id) (o : Option Id) → option_map_or (λ b. is_of_program b trace v) o false ≡ shares_program l o v
  shares_same v None = refl
  shares_same v (Some b) = named_same b (program_of v trace) ∙ ap (is_named b) (program_same l trace h v)

  tied_same : (u v : Id) → is_tied trace u v ≡ is_tied_by l r u v
  tied_same u v =
      (λ i. has_id v (k.sources u i) || option_map_or (λ b. is_of_program b trace v) (program_same l trace h u i) false)
      ∙ ap (λ (t : Bool). has_id v (sources_in u r.sources) || t) (shares_same v (program_in l u))

  chains_same : (a : Id) → in_chains trace a ≡ chained l r a
  chains_same a = λ i. widened (λ u. filter (λ v. tied_same u v i) (h.order i)) (length (h.order i)) (a ∷ [])

  pub free_same : (o : Option Id) → is_program_released trace o ≡ is_free r.released o
  free_same None = refl
  free_same (Some b) = k.released b

  unsalted_same : (a : Id) →
      (if is_none (program_of a trace) && not (list_all (λ u. is_program_released trace (program_of u trace)) (in_chains trace a)) then a ∷ [] else []) ≡ unsalted_of l r a
  unsalted_same a =
      (λ i. if is_none (program_same l trace h a i) && not (list_all (λ (u : Id). is_program_released trace (program_same l trace h u i)) (chains_same a i)) then a ∷ [] else [])
      ∙ (λ i. if is_none (program_in l a) && not (list_all (λ (u : Id). free_same (program_in l u) i) (chained l r a)) then a ∷ [] else [])

pub unsalted_exactly : (l : Ledger) (r : Reads) (trace : Trace) (e : Event) → HoldsTrace l (told trace e) → HoldsReads r (told trace e) → unsalted_by l r e ≡ unsalted trace e
unsalted_exactly l r trace (event.Did a st x) h k = sym (unsalted_same l r (trace says event.Did a st x) h k a)
unsalted_exactly l r trace (event.Began u kind) h k = refl
unsalted_exactly l r trace (event.Waits u os) h k = refl
unsalted_exactly l r trace (event.Ended u e) h k = refl
unsalted_exactly l r trace (event.Accepted b) h k = refl
unsalted_exactly l r trace (event.Finished b) h k = refl
unsalted_exactly l r trace (event.Released bs) h k = refl
unsalted_exactly l r trace (event.Early bs) h k = refl
unsalted_exactly l r trace (event.Down w) h k = refl
unsalted_exactly l r trace (event.Opened boot n) h k = refl
unsalted_exactly l r trace event.Ready h k = refl
unsalted_exactly l r trace (event.Defined n text) h k = refl
unsalted_exactly l r trace (event.Refused x) h k = refl
unsalted_exactly l r trace (event.Armed pairs) h k = refl
unsalted_exactly l r trace (event.Shown items) h k = refl
