-- What comes next in a trace is told by its state.
use Rattle.law_states.proofs.Doing.{answer-kept}
use Rattle.law_states.proofs.LookUps.{asked-kept, base-name-kept, block-kept, number-kept, program-kept, session-kept, unit-name-kept}
use Rattle.law_states.specs.Follows.{cut_in, cuts_or_drains_in, drains_in, unfinished_in}
use Rattle.law_states.specs.Keeps.{KeepsUnit, KeepsUnits}
use Rattle.law_states.specs.OpenUnits.{OpenUnit, UnitState, can_go_in, counted, is_not_waiting, names_in, next_to_go_in, next_turn_in, turn_owed_in, unit_of_program, unit_of_session}
use Rattle.law_states.specs.Told.{Clashes, Items, act_in, after_began_in, after_did_in, after_end_in, asks_in, begins_in, calls_in, commits_in, does_in, fails_in, finishes_in, go_in, goes_on_in, is_at_end_in, kind_called_in, line_in, serve_in, settle_in, turn_in, turn_of_in}
use Rattle.law_story.proofs.Every.{IfSome}
use Rattle.salt_ast.specs.ProgramTexts.{program_text}
use Rattle.salt_ast.specs.Texts.{table_text}
use Rattle.salt_ast.specs.declared.lines.Act.{Act}
use Rattle.salt_ast.specs.declared.lines.Act.TheVariants.{Begin, Call, Commit, Do, Rollback, Step}
use Rattle.salt_ast.specs.declared.lines.Line.{Line}
use Rattle.salt_ast.specs.declared.lines.Line.TheVariants.{Go, Program, Session, ShowBases, ShowLocks, Table}
use Rattle.salt_ast.specs.declared.programs.Body.{Body}
use Rattle.salt_ast.specs.declared.programs.Body.TheVariants.{Acid, Base}
use Rattle.salt_ast.specs.declared.trees.Statement.{Statement}
use Rattle.salt_model.specs.After.{kept}
use Rattle.salt_model.specs.Kept.{block_of_kind, cont_of, kept_program}
use Rattle.salt_model.specs.Locks.{clashing}
use Rattle.salt_model.specs.Openings.{cuts_or_drains, drains, to_cut, unfinished}
use Rattle.salt_model.specs.Programs.{named_early}
use Rattle.salt_model.specs.Shown.{base_items, lock_items}
use Rattle.salt_model.specs.Trace.{Trace}
use Rattle.salt_model.specs.Turns.{act_event, after_began, after_did, after_end, asks_for, begins, can_go, commits, does, does_next, fails, finishes, go, goes_on, is_at_end, kind_called, line_event, next_to_go, next_turn, settle_by, turn, turn_owed}
use Rattle.salt_model.specs.Units.{done_of, is_waiting, open_units, program_unit}
use Rattle.salt_model.specs.Waiting.{block_of}
use Rattle.salt_model.specs.Words.{Every, is_empty}
use Rattle.salt_model.specs.declared.events.Answer.{Answer}
use Rattle.salt_model.specs.declared.events.Answer.TheVariants.{Failed}
use Rattle.salt_model.specs.declared.events.Cause.{Cause}
use Rattle.salt_model.specs.declared.events.End.{End}
use Rattle.salt_model.specs.declared.events.End.TheVariants.{Branched, Committed}
use Rattle.salt_model.specs.declared.events.Event.TheVariants.{Began, Defined, Did, Ended, Finished, Shown}
use Rattle.salt_model.specs.declared.events.Owner.{Owner}
use Rattle.salt_model.specs.declared.events.UnitKind.{UnitKind}
use Rattle.salt_model.specs.declared.events.UnitKind.TheVariants.{Acid, First, Later}
use Rattle.salt_values.specs.Id.{in_order}
use Rattle.salt_values.specs.declared.cont.Cont.{Cont}
use Rattle.salt_values.specs.declared.id.Id.{Id}
use Rattle.salt_values.specs.declared.value.Value.{Value}
use Rattle.std.proofs.Common.{ap, ◌∙◌}
use Rattle.std.specs.Bool.{then_some}
use Rattle.std.specs.List.{filter, find}
use Rattle.std.specs.Option.{option_or}
use Rattle.std.specs.Prelude.{Bool, List, None, Option, Some, [], cond, false, if◌then◌else◌, is_none, is_some, length, nat_lt, not, option_map, refl, true, ℕ, ◌&&◌, ◌==◌, ◌∷◌, ◌≡◌}
use Rattle.std.specs.Prelude.{option_and_then}

pub every-found : {A : Type 0} (P : A → Type 0) (q : A → Bool) (xs : List A) → Every P xs → IfSome P (find q xs)
every-found P q [] h = tt
every-found P q (x ∷ xs) h = by (q x) (every-found P q xs h.1)
  where
    by : (b : Bool) → IfSome P (find q xs) → IfSome P (cond b (Some x) (find q xs))
    by true more = h.0
    by false more = more

abbrev pub name_of : Option OpenUnit → Option Id
name_of o = option_map (λ (x : OpenUnit). x.unit) o

pub empty-names : (os : List OpenUnit) → is_empty (names_in os) ≡ is_empty os
empty-names [] = refl
empty-names (o ∷ os) = refl

find-same : {A : Type 0} (p q : A → Bool) → ((x : A) → p x ≡ q x) → (xs : List A) → find p xs ≡ find q xs
find-same p q h [] = refl
find-same p q h (x ∷ xs) = let rest = find-same p q h xs in λ i. cond (h x i) (Some x) (rest i)

module _ (s : UnitState) (trace : Trace) (keeps : KeepsUnits s trace) where
  does-told : (o : OpenUnit) (st : Statement) → KeepsUnit trace o → does trace o.unit st ≡ does_in s o st
  does-told o st k = ap (Did o.unit st) (answer-kept trace s.kept o st keeps.kept k)

  asks-told : (o : OpenUnit) (st : Statement) → KeepsUnit trace o → (owners : List Owner) → asks_for trace o.unit st owners ≡ asks_in s o st owners
  asks-told o st k [] = does-told o st k
  asks-told o st k (owner ∷ owners) = refl

  -- whom a statement of an open unit clashes with
  abbrev pub AreClashes : Clashes → Type 0
  AreClashes c = (o : OpenUnit) (st : Statement) → KeepsUnit trace o → clashing trace o.unit st ≡ c o st

  asks-clash : (c : Clashes) → AreClashes c → (o : OpenUnit) → KeepsUnit trace o → (st : Statement) →
      asks_for trace o.unit st (clashing trace o.unit st) ≡ asks_in s o st (c o st)
  asks-clash c f o k st = asks-told o st k (clashing trace o.unit st) ∙ ap (asks_in s o st) (f o st k)

  pub turn-told : (c : Clashes) → AreClashes c → (o : OpenUnit) → KeepsUnit trace o → turn trace o.unit ≡ turn_in s c o
  turn-told c f o k = λ i. option_map (λ st. asks-clash c f o k st i) (asked-kept s trace o keeps k i)

  pub serve-told : (o : OpenUnit) → KeepsUnit trace o → does_next trace o.unit ≡ serve_in s o
  serve-told o k = λ i. option_map (λ st. does-told o st k i) (asked-kept s trace o keeps k i)

  turn-of-told : (c : Clashes) → AreClashes c → (o : Option OpenUnit) → IfSome (KeepsUnit trace) o → option_and_then (turn trace) (name_of o) ≡ turn_of_in s c o
  turn-of-told c f None k = refl
  turn-of-told c f (Some o) k = turn-told c f o k

  pub begins-told : (kind : UnitKind) → begins trace kind ≡ begins_in s kind
  begins-told kind = ap (λ u. Began u kind) (unit-name-kept s trace keeps)

  kind-told : (t : ℕ) (n : List ℕ) (args : List Value) (body : Body) → kind_called trace t n args body ≡ kind_called_in s t n args body
  kind-told t n args (Acid block) = refl
  kind-told t n args (Base parts) = ap (λ b. First t b n args) (base-name-kept s trace keeps)

  calls-told : (t : ℕ) (n : List ℕ) (args : List Value) → option_map (λ p. begins trace (kind_called trace t n args p.body)) (kept_program n (kept trace)) ≡ calls_in s t n args
  calls-told t n args = λ i. option_map (λ p. Began (unit-name-kept s trace keeps i) (kind-told t n args p.body i)) (kept_program n (keeps.kept i))

  pub commits-told : (o : OpenUnit) → commits trace o.unit ≡ commits_in s o
  commits-told o = ap (λ n. Ended o.unit (Committed n)) (number-kept s trace keeps)

  act-told : (c : Clashes) → AreClashes c → (t : ℕ) (act : Act) (o : Option OpenUnit) → IfSome (KeepsUnit trace) o →
      act_event trace t act (name_of o) ≡ act_in s c t act o
  act-told c f t Begin o k = ap Some (begins-told (Acid t))
  act-told c f t (Do st) None k = ap Some (begins-told (Acid t))
  act-told c f t (Do st) (Some o) k = turn-told c f o k
  act-told c f t (Call n args) o k = calls-told t n args
  act-told c f t Step o k = turn-of-told c f o k
  act-told c f t Commit None k = refl
  act-told c f t Commit (Some o) k = ap Some (commits-told o)
  act-told c f t Rollback None k = refl
  act-told c f t Rollback (Some o) k = refl

  goes-on-told : (c : Clashes) → AreClashes c → (b : Id) (o : Option OpenUnit) → IfSome (KeepsUnit trace) o →
      goes_on trace b (name_of o) ≡ goes_on_in s c b o
  goes-on-told c f b None k = λ i. option_map (λ (c : Cont). begins-told (Later b c.next) i) (cont_of b (keeps.kept i))
  goes-on-told c f b (Some o) k = turn-told c f o k

  -- `go`, and a turn of `go all`
  pub go-told : (c : Clashes) → AreClashes c → (b : Id) → go trace b ≡ go_in s c b
  go-told c f b =
      ap (goes_on trace b) (program-kept s trace b keeps)
      ∙ goes-on-told c f b (unit_of_program b s) (every-found (KeepsUnit trace) _ s.units keeps.each)

  -- the first event of a line
  pub line-told : (c : Clashes) → AreClashes c → (items : Items) → record { locks = lock_items trace; bases = base_items trace } ≡ items →
      (line : Line) → line_event trace line ≡ line_in s c items line
  line-told c f items shown (Session t act) =
      ap (act_event trace t act) (session-kept s trace t keeps)
      ∙ act-told c f t act (unit_of_session t s) (every-found (KeepsUnit trace) _ s.units keeps.each)
  line-told c f items shown (Go b) = go-told c f b
  line-told c f items shown ShowLocks = ap (λ (x : Items). Some (Shown x.locks)) shown
  line-told c f items shown ShowBases = ap (λ (x : Items). Some (Shown x.bases)) shown
  line-told c f items shown (Table d) = ap (λ n. Some (Defined n (table_text d))) (number-kept s trace keeps)
  line-told c f items shown (Program p) = ap (λ n. Some (Defined n (program_text p))) (number-kept s trace keeps)
  line-told c f items shown line = refl

  -- what follows a Began, a Did
  pub after-began-told : (c : Clashes) → AreClashes c → (o : OpenUnit) → KeepsUnit trace o → (line : Line) (kind : UnitKind) →
      after_began trace o.unit line kind ≡ after_began_in s c o line kind
  after-began-told c f o k (Session t Begin) (Acid z) = refl
  after-began-told c f o k line kind = turn-told c f o k

  fails-told : (o : OpenUnit) (c : Cause) (kind : UnitKind) → fails trace o.unit c (Some kind) ≡ fails_in s o c kind
  fails-told o c (Later b part) = ap (λ n. Ended o.unit (Branched n c)) (number-kept s trace keeps)
  fails-told o c kind = refl

  ends-told : (o : OpenUnit) → KeepsUnit trace o → (b : Option (List Statement)) → length (done_of o.unit trace) ≡ o.done →
      is_at_end trace o.unit b ≡ is_at_end_in o b
  ends-told o k (Some block) e = ap (λ n. n == length block) e
  ends-told o k None e = k.single

  ends-by-kind : (o : OpenUnit) → KeepsUnit trace o → (kind : UnitKind) → counted kind (length (done_of o.unit trace)) ≡ o.done →
      is_at_end trace o.unit (block_of_kind s.kept kind) ≡ is_at_end_in o (block_of_kind s.kept kind)
  ends-by-kind o k (Acid t) e = k.single
  ends-by-kind o k kind e = ends-told o k (block_of_kind s.kept kind) e

  at-end-told : (o : OpenUnit) → KeepsUnit trace o →
      then_some (is_at_end trace o.unit (block_of o.unit trace)) (commits trace o.unit) ≡ then_some (is_at_end_in o (block_of_kind s.kept o.kind)) (commits_in s o)
  at-end-told o k =
      ap (λ b. then_some (is_at_end trace o.unit b) (commits trace o.unit)) (block-kept s trace o keeps k)
      ∙ (λ i. then_some (ends-by-kind o k o.kind k.done i) (commits-told o i))

  pub after-did-told : (o : OpenUnit) → KeepsUnit trace o → (answer : Answer) → after_did trace o.unit answer ≡ after_did_in s o answer
  after-did-told o k (Failed c) = ap (λ kind. Some (fails trace o.unit c kind)) k.kind ∙ ap Some (fails-told o c o.kind)
  after-did-told o k answer = at-end-told o k

  pub finishes-told : (b : Id) → finishes trace b ≡ finishes_in s b
  finishes-told b = ap (λ k. then_some (is_none (cont_of b k)) (Finished b)) keeps.kept

  -- what follows the end of a unit of this kind
  pub after-end-told : (end : End) (kind : UnitKind) → after_end trace end (Some kind) ≡ after_end_in s end kind
  after-end-told (Committed n) (First t b name args) = refl
  after-end-told (Committed n) (Later b part) = finishes-told b
  after-end-told (Branched n c) (Later b part) = finishes-told b
  after-end-told end kind = refl

  pub settle-told : (v : Option Id) (o : Option OpenUnit) → IfSome (KeepsUnit trace) o → settle_by trace v (name_of o) ≡ settle_in s v o
  settle-told (Some u) o k = refl
  settle-told None None k = refl
  settle-told None (Some o) k = serve-told o k

  pub to-cut-told : to_cut trace ≡ cut_in s
  to-cut-told = λ i. in_order (filter (λ u. nat_lt u.boot (keeps.kept i).boot) (keeps.units i))

  unfinished-told : (t : Bool) (c : Cont) (cs : List Cont) → unfinished t trace c cs ≡ unfinished_in t s c cs
  unfinished-told true c cs = refl
  unfinished-told false c cs = begins-told (Later c.base c.next)

  drains-told : (cs : List Cont) → drains trace cs ≡ drains_in s cs
  drains-told [] = refl
  drains-told (c ∷ cs) = ap (λ t. unfinished t trace c cs) keeps.early ∙ unfinished-told s.early c cs

  pub cuts-told : (us : List Id) → cuts_or_drains trace us ≡ cuts_or_drains_in s us
  cuts-told (u ∷ us) = refl
  cuts-told [] =
      ap (λ k. then_some (is_empty (open_units trace)) (drains trace k.conts)) keeps.kept
      ∙ (λ i. then_some (is_empty (keeps.units i)) (drains-told s.kept.conts i))
      ∙ ap (λ b. then_some b (drains_in s s.kept.conts)) (empty-names s.units)

  still-runs : (o : Option OpenUnit) → IfSome (KeepsUnit trace) o →
      elim (name_of o) [ None ↦ true | Some u ↦ not (is_waiting trace u) ] ≡ is_not_waiting o
  still-runs None k = refl
  still-runs (Some o) k = ap not k.waiting

  pub can-go-told : (b : Id) → can_go trace b ≡ can_go_in s b
  can-go-told b =
      ap (λ k. is_some (cont_of b k) && (elim (program_unit b trace) [ None ↦ true | Some u ↦ not (is_waiting trace u) ])) keeps.kept
      ∙ ap (λ o. is_some (cont_of b s.kept) && (elim o [ None ↦ true | Some u ↦ not (is_waiting trace u) ])) (program-kept s trace b keeps)
      ∙ ap (λ t. is_some (cont_of b s.kept) && t) (still-runs (unit_of_program b s) (every-found (KeepsUnit trace) _ s.units keeps.each))

  pub next-to-go-told : next_to_go trace ≡ next_to_go_in s
  next-to-go-told = ap (find (can_go trace)) keeps.to_go ∙ find-same (can_go trace) (can_go_in s) can-go-told s.to_go

  owed-found : find (can_go trace) (named_early trace) ≡ find (can_go_in s) s.named
  owed-found = ap (find (can_go trace)) keeps.named ∙ find-same (can_go trace) (can_go_in s) can-go-told s.named

  turn-owed-told : turn_owed trace ≡ turn_owed_in s
  turn-owed-told = λ i. if keeps.owes i then owed-found i else None

  pub next-turn-told : next_turn trace ≡ next_turn_in s
  next-turn-told = λ i. option_or (next-to-go-told i) (turn-owed-told i)
