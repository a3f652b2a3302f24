-- Units that are settled stay so behind an event that may come, and what a search found may be settled.
use Rattle.law_states.specs.Members.{In}
use Rattle.law_story.proofs.Ids.{and_left, and_right, is_same_id-true}
use Rattle.law_story.proofs.Lists.{all-in, either, has-in, in-cases, or_cases, or_left_true, or_right_true}
use Rattle.salt_ast.specs.declared.trees.Statement.{Statement}
use Rattle.salt_audit.specs.Formed.{is_part}
use Rattle.salt_audit.specs.Standing.{begun_in, fits_unit, goes_on, is_formed_at, may_begin_by, may_do_by, next_due}
use Rattle.salt_audit.specs.Telling.{bases_by, finished_by, over, unit_by}
use Rattle.salt_audit.specs.declared.state.Begun.{Begun}
use Rattle.salt_audit.specs.declared.state.State.{State}
use Rattle.salt_judge.specs.ReadAfter.{IsReadAfter, changers, parts_by, reach_by, released_by, sources_by}
use Rattle.salt_audit.specs.Marks.{AreMarks, is_marked}
use Rattle.salt_judge.specs.Reads.{freed_in, is_named, near, parts_near, program_in, program_noted, sources_in}
use Rattle.salt_judge.specs.Searching.{AreSettled, IsSettled, is_known, is_over, may_settle, rests, rests_as}
use Rattle.salt_judge.specs.declared.reads.Opening.{Opening}
use Rattle.salt_judge.specs.declared.reads.Reads.{Reads}
use Rattle.salt_judge.specs.declared.reads.Sources.{Sources}
use Rattle.salt_judge.specs.declared.reads.Writing.{Writing}
use Rattle.salt_model.specs.Units.{program_of_kind}
use Rattle.salt_model.specs.declared.events.Answer.{Answer}
use Rattle.salt_model.specs.declared.events.Event.TheVariants as event
use Rattle.salt_model.specs.declared.events.Event.{Event}
use Rattle.salt_model.specs.declared.events.UnitKind.TheVariants.{Acid, Call, First, Later}
use Rattle.salt_model.specs.declared.events.UnitKind.{UnitKind}
use Rattle.salt_values.specs.Id.{has_id, is_same_id}
use Rattle.salt_values.specs.declared.id.Id.{Id}
use Rattle.salt_verdict.proofs.Active.{may}
use Rattle.salt_audit.proofs.Marking.{has_more}
use Rattle.salt_verdict.specs.After.{IsAfter}
use Rattle.salt_verdict.specs.declared.ledger.Ledger.{Ledger}
use Rattle.std.proofs.Common.{Bool, List, None, Option, Some, [], ap, false, if◌then◌else◌, is_none, not, option_map, refl, subst, sym, true, ◌&&◌, ◌++◌, ◌∙◌, ◌∷◌, ◌≡◌, ◌||◌}
use Rattle.std.specs.BTreeMap.{BTreeMap}
use Rattle.std.specs.List.{list_all}

-- WHAT AN EVENT THAT MAY COME DOES NOT DO

no_more : (b : Bool) → not b ≡ true → b ≡ true → ⊥
no_more true h e = absurd cc
no_more false h e = absurd cc

none_there : (o : Option Begun) (n : Begun) → is_none o ≡ true → o ≡ Some n → ⊥
none_there None n h e = absurd cc
none_there (Some m) n h e = absurd cc

-- a unit that has begun does not begin
begins_not : (s : State) (v : Id) (kind : UnitKind) (n : Begun) → is_formed_at s (event.Began v kind) ≡ true → begun_in v s.units ≡ Some n → ⊥
begins_not s v kind n f e =
    none_there (begun_in v s.units) n (and_left (is_none (begun_in v s.units)) (may_begin_by s kind) (may s.opened (is_none (begun_in v s.units) && may_begin_by s kind) f)) e

open_there : (s : State) (st : Statement) (o : Option Begun) (n : Begun) → may_do_by s st o ≡ true → o ≡ Some n → n.is_open ≡ true
open_there s st None n h e = absurd cc
open_there s st (Some m) n h e =
    let same : m ≡ n = cc in
    subst (λ (k : Begun). k.is_open ≡ true) same (and_left m.is_open (fits_unit s st m) h)

-- one that has ended does no statement
does_not : (s : State) (v : Id) (st : Statement) (a : Answer) (n : Begun) → is_formed_at s (event.Did v st a) ≡ true → begun_in v s.units ≡ Some n → not n.is_open ≡ true → ⊥
does_not s v st a n f e closed =
    no_more n.is_open closed (open_there s st (begun_in v s.units) n (may s.opened (may_do_by s st (begun_in v s.units)) f) e)

-- no unit begins of a program that has finished
program_not : (s : State) (kind : UnitKind) (b : Id) → may_begin_by s kind ≡ true → is_named b (program_of_kind kind) ≡ true → has_id b s.bases ≡ true → has_id b s.finished ≡ true → ⊥
program_not s (Acid session) b h named known finished = absurd cc
program_not s (Call session name args) b h named known finished = absurd cc
program_not s (First session c name args) b h named known finished =
    no_more (has_id c s.bases) (and_left (not (has_id c s.bases)) _ h) (subst (λ (x : Id). has_id x s.bases ≡ true) (is_same_id-true b c named) known)
program_not s (Later c part) b h named known finished =
    no_more (has_id c s.finished) (and_right (has_id c s.accepted) (not (has_id c s.finished)) (and_left (goes_on s c) (is_part part (next_due c s.conts)) h))
    (subst (λ (x : Id). has_id x s.finished ≡ true) (is_same_id-true b c named) finished)

-- WHAT STAYS

has_still : (b c : Id) (us : List Id) → has_id b us ≡ true → has_id b (us ++ c ∷ []) ≡ true
has_still b c us h = has_more b c us ∙ or_right_true (is_same_id b c) (has_id b us) h

bases_still : (e : Event) (b : Id) (us : List Id) → has_id b us ≡ true → has_id b (bases_by e us) ≡ true
bases_still (event.Began u (Acid session)) b us h = h
bases_still (event.Began u (Call session name args)) b us h = h
bases_still (event.Began u (First session c name args)) b us h = has_still b c us h
bases_still (event.Began u (Later c part)) b us h = has_still b c us h
bases_still (event.Did u st a) b us h = h
bases_still (event.Waits u os) b us h = h
bases_still (event.Ended u end) b us h = h
bases_still (event.Accepted c) b us h = h
bases_still (event.Finished c) b us h = h
bases_still (event.Released bs) b us h = h
bases_still (event.Early bs) b us h = h
bases_still (event.Down w) b us h = h
bases_still (event.Opened boot n) b us h = h
bases_still event.Ready b us h = h
bases_still (event.Defined n text) b us h = h
bases_still (event.Refused r) b us h = h
bases_still (event.Armed pairs) b us h = h
bases_still (event.Shown items) b us h = h

finished_still : (e : Event) (b : Id) (us : List Id) → has_id b us ≡ true → has_id b (finished_by e us) ≡ true
finished_still (event.Finished c) b us h = has_still b c us h
finished_still (event.Began u kind) b us h = h
finished_still (event.Did u st a) b us h = h
finished_still (event.Waits u os) b us h = h
finished_still (event.Ended u end) b us h = h
finished_still (event.Accepted c) b us h = h
finished_still (event.Released bs) b us h = h
finished_still (event.Early bs) b us h = h
finished_still (event.Down w) b us h = h
finished_still (event.Opened boot n) b us h = h
finished_still event.Ready b us h = h
finished_still (event.Defined n text) b us h = h
finished_still (event.Refused r) b us h = h
finished_still (event.Armed pairs) b us h = h
finished_still (event.Shown items) b us h = h

-- a unit that has ended is noted as it was
pub record StaysAs (n : Begun) (o : Option Begun) : Type 0 where
  pub now : Begun
  pub there : o ≡ Some now
  pub kind : now.kind ≡ n.kind
  pub closed : not now.is_open ≡ true

module _ (s : State) (x : Id) (n : Begun) (there : begun_in x s.units ≡ Some n) (closed : not n.is_open ≡ true) where
  was : StaysAs n (begun_in x s.units)
  was = record { now = n; there = there; kind = refl; closed = closed }

  chosen : (t : Bool) (o p : Option Begun) → (t ≡ true → StaysAs n o) → StaysAs n p → StaysAs n (if t then o else p)
  chosen true o p a b = a refl
  chosen false o p a b = b

  named : (v : Id) → is_same_id x v ≡ true → begun_in v s.units ≡ Some n
  named v same = ap (λ (y : Id). begun_in y s.units) (sym (is_same_id-true x v same)) ∙ there

  stays : (e : Event) → is_formed_at s e ≡ true → StaysAs n (unit_by e s x)
  stays (event.Began v kind) f = chosen (is_same_id x v) _ (begun_in x s.units) (λ same. absurd (begins_not s v kind n f (named v same))) was
  stays (event.Did v st a) f = chosen (is_same_id x v) _ (begun_in x s.units) (λ same. absurd (does_not s v st a n f (named v same) closed)) was
  stays (event.Ended v end) f =
      chosen (is_same_id x v) _ (begun_in x s.units) (λ same. record { now = over n; there = ap (option_map over) there; kind = refl; closed = refl }) was
  stays (event.Waits v os) f = was
  stays (event.Accepted b) f = was
  stays (event.Finished b) f = was
  stays (event.Released bs) f = was
  stays (event.Early bs) f = was
  stays (event.Down w) f = was
  stays (event.Opened boot k) f = was
  stays event.Ready f = was
  stays (event.Defined k text) f = was
  stays (event.Refused r) f = was
  stays (event.Armed pairs) f = was
  stays (event.Shown items) f = was

  -- whom it has read from stays
  sources_still : (e : Event) → is_formed_at s e ≡ true → (l : Ledger) (last : List Writing) (sources : BTreeMap Id Sources) → sources_by e l last sources x ≡ sources_in x sources
  sources_still (event.Did v st a) f l last sources = by (is_same_id x v) refl
    where
      by : (t : Bool) → is_same_id x v ≡ t → (if t then changers last (reach_by l v st) ++ sources_in x sources else sources_in x sources) ≡ sources_in x sources
      by true same = absurd (does_not s v st a n f (named v same) closed)
      by false other = refl
  sources_still (event.Began v kind) f l last sources = refl
  sources_still (event.Ended v end) f l last sources = refl
  sources_still (event.Waits v os) f l last sources = refl
  sources_still (event.Accepted b) f l last sources = refl
  sources_still (event.Finished b) f l last sources = refl
  sources_still (event.Released bs) f l last sources = refl
  sources_still (event.Early bs) f l last sources = refl
  sources_still (event.Down w) f l last sources = refl
  sources_still (event.Opened boot k) f l last sources = refl
  sources_still event.Ready f l last sources = refl
  sources_still (event.Defined k text) f l last sources = refl
  sources_still (event.Refused r) f l last sources = refl
  sources_still (event.Armed pairs) f l last sources = refl
  sources_still (event.Shown items) f l last sources = refl

-- the parts of a program that has finished stay
parts_still : (s : State) (b : Id) → has_id b s.bases ≡ true → has_id b s.finished ≡ true → (e : Event) → is_formed_at s e ≡ true → (parts : BTreeMap Id Sources) →
    parts_by e parts b ≡ sources_in b parts
parts_still s b known finished (event.Began v kind) f parts = by (is_named b (program_of_kind kind)) refl
  where
    by : (t : Bool) → is_named b (program_of_kind kind) ≡ t → (if t then v ∷ sources_in b parts else sources_in b parts) ≡ sources_in b parts
    by true is =
        absurd (program_not s kind b (and_right (is_none (begun_in v s.units)) (may_begin_by s kind) (may s.opened (is_none (begun_in v s.units) && may_begin_by s kind) f)) is known finished)
    by false other = refl
parts_still s b known finished (event.Did v st a) f parts = refl
parts_still s b known finished (event.Ended v end) f parts = refl
parts_still s b known finished (event.Waits v os) f parts = refl
parts_still s b known finished (event.Accepted c) f parts = refl
parts_still s b known finished (event.Finished c) f parts = refl
parts_still s b known finished (event.Released bs) f parts = refl
parts_still s b known finished (event.Early bs) f parts = refl
parts_still s b known finished (event.Down w) f parts = refl
parts_still s b known finished (event.Opened boot k) f parts = refl
parts_still s b known finished event.Ready f parts = refl
parts_still s b known finished (event.Defined k text) f parts = refl
parts_still s b known finished (event.Refused r) f parts = refl
parts_still s b known finished (event.Armed pairs) f parts = refl
parts_still s b known finished (event.Shown items) f parts = refl

released_still : (e : Event) (bases : List Id) (os : List Opening) (released : BTreeMap Id Bool) (b : Id) → is_marked b released ≡ true → released_by e bases os released b ≡ true
released_still (event.Released bs) bases os released b h = or_right_true (has_id b bs) _ (or_right_true (has_id b (freed_in bs os)) (is_marked b released) h)
released_still event.Ready bases os released b h = or_right_true (has_id b bases) (is_marked b released) h
released_still (event.Began u kind) bases os released b h = h
released_still (event.Did u st a) bases os released b h = h
released_still (event.Waits u owners) bases os released b h = h
released_still (event.Ended u end) bases os released b h = h
released_still (event.Accepted c) bases os released b h = h
released_still (event.Finished c) bases os released b h = h
released_still (event.Early bs) bases os released b h = h
released_still (event.Down w) bases os released b h = h
released_still (event.Opened boot k) bases os released b h = h
released_still (event.Defined k text) bases os released b h = h
released_still (event.Refused x) bases os released b h = h
released_still (event.Armed pairs) bases os released b h = h
released_still (event.Shown items) bases os released b h = h

module _ (l m : Ledger) (r s : Reads) (e : Event) (f : is_formed_at l.state e ≡ true) (after : IsAfter l m e) (read : IsReadAfter l r s e) where
  -- a program of which nothing begins any more, and its parts
  record OverStill (o : Option Id) : Type 0 where
    over : is_over m s o ≡ true
    parts : parts_near s o ≡ parts_near r o

  over_still : (o : Option Id) → is_over l r o ≡ true → OverStill o
  over_still None h = record { over = refl; parts = refl }
  over_still (Some b) h = record {
    over = all (is_marked b s.released) (has_id b m.state.bases) (has_id b m.state.finished)
        (read.released b ∙ released_still e l.state.bases r.openings r.released b released)
        (ap (has_id b) after.state.bases ∙ bases_still e b l.state.bases known)
        (ap (has_id b) after.state.finished ∙ finished_still e b l.state.finished finished);
    parts = read.parts b ∙ parts_still l.state b known finished e f r.parts;
  }
    where
      all : (x y z : Bool) → x ≡ true → y ≡ true → z ≡ true → (x && (y && z)) ≡ true
      all x y z p q w = rw p (rw q (rw w refl))

      rest : Bool
      rest = has_id b l.state.bases && has_id b l.state.finished

      released : is_marked b r.released ≡ true
      released = and_left (is_marked b r.released) rest h

      known : has_id b l.state.bases ≡ true
      known = and_left (has_id b l.state.bases) (has_id b l.state.finished) (and_right (is_marked b r.released) rest h)

      finished : has_id b l.state.finished ≡ true
      finished = and_right (has_id b l.state.bases) (has_id b l.state.finished) (and_right (is_marked b r.released) rest h)

  -- what is noted of a unit that rests
  record RestsAs (x : Id) (o : Option Begun) : Type 0 where
    now : Begun
    there : o ≡ Some now
    closed : not now.is_open ≡ true
    over : is_over l r (program_of_kind now.kind) ≡ true

  rests_by : (x : Id) (o : Option Begun) → rests_as l r o ≡ true → RestsAs x o
  rests_by x None h = absurd cc
  rests_by x (Some n) h =
      let over = is_over l r (program_of_kind n.kind) in
      record { now = n; there = refl; closed = and_left (not n.is_open) over h; over = and_right (not n.is_open) over h }

  settled_still : (settled : BTreeMap Id Bool) (x : Id) → IsSettled l r settled x → IsSettled m s settled x
  settled_still settled x h = record {
    rests = ap (rests_as m s) noted ∙ both (not now.now.is_open) _ now.closed (ap (λ (kind : UnitKind). is_over m s (program_of_kind kind)) now.kind ∙ over.over);
    ties = λ v i. h.ties v (subst (In v) near_same i);
  }
    where
      old : RestsAs x (begun_in x l.state.units)
      old = rests_by x (begun_in x l.state.units) h.rests

      now : StaysAs old.now (unit_by e l.state x)
      now = stays l.state x old.now old.there old.closed e f

      noted : begun_in x m.state.units ≡ Some now.now
      noted = after.state.units x ∙ now.there

      over : OverStill (program_of_kind old.now.kind)
      over = over_still (program_of_kind old.now.kind) old.over

      both : (p q : Bool) → p ≡ true → q ≡ true → (p && q) ≡ true
      both p q a b = rw a (rw b refl)

      program_now : program_in m x ≡ program_of_kind old.now.kind
      program_now = ap program_noted noted ∙ ap program_of_kind now.kind

      program_old : program_in l x ≡ program_of_kind old.now.kind
      program_old = ap program_noted old.there

      near_same : near m s x ≡ near l r x
      near_same =
          (λ i. (read.sources x ∙ sources_still l.state x old.now old.there old.closed e f l r.last.items r.sources) i
          ++ (ap (parts_near s) program_now ∙ over.parts ∙ ap (parts_near r) (sym program_old)) i)

  pub settled_on : (settled : BTreeMap Id Bool) → AreSettled l r settled → AreSettled m s settled
  settled_on settled h x is = settled_still settled x (h x is)

-- WHAT A SEARCH FOUND

pub settled_more : (l : Ledger) (r : Reads) (old new marks : BTreeMap Id Bool) (found : List Id) → AreMarks marks found → ((u : Id) → is_marked u new ≡ (has_id u found || is_marked u old)) →
    list_all (may_settle l r old marks) found ≡ true → AreSettled l r old → AreSettled l r new
settled_more l r old new marks found marked put all h x is =
    either (λ (i : has_id x found ≡ true). fresh (all-in (may_settle l r old marks) x found all (has-in x found i)))
    (λ (i : is_marked x old ≡ true). let was = h x i in record { rests = was.rests; ties = λ v j. stay v (was.ties v j) })
    (or_cases (has_id x found) (is_marked x old) (sym (put x) ∙ is))
  where
    stay : (v : Id) → is_marked v old ≡ true → is_marked v new ≡ true
    stay v i = put v ∙ or_right_true (has_id v found) (is_marked v old) i

    known : (v : Id) → is_known old marks v ≡ true → is_marked v new ≡ true
    known v k =
        either (λ (i : is_marked v old ≡ true). stay v i)
        (λ (i : is_marked v marks ≡ true). put v ∙ or_left_true (has_id v found) (is_marked v old) (sym (marked v) ∙ i)) (or_cases (is_marked v old) (is_marked v marks) k)

    fresh : may_settle l r old marks x ≡ true → IsSettled l r new x
    fresh may =
        let sources = sources_in x r.sources in
        let parts = parts_near r (program_in l x) in
        let rest = list_all (is_known old marks) sources && list_all (is_known old marks) parts in
        let ties = and_right (rests l r x) rest may in
        record {
          rests = and_left (rests l r x) rest may;
          ties = λ v j.
              either (λ (i : In v sources). known v (all-in (is_known old marks) v sources (and_left (list_all (is_known old marks) sources) (list_all (is_known old marks) parts) ties) i))
              (λ (i : In v parts). known v (all-in (is_known old marks) v parts (and_right (list_all (is_known old marks) sources) (list_all (is_known old marks) parts) ties) i))
              (in-cases v sources parts j);
        }
