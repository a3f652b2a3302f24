-- Where no open unit is unfaithful, an event makes only those so whose replay it may change.
use Rattle.law_states.specs.Members.{In}
use Rattle.law_story.proofs.Ids.{is_same_id-refl}
use Rattle.law_story.proofs.Lists.{either, in-cases, in-filter, into-filter}
use Rattle.salt_audit.specs.Laws.{is_same_answer, same_all}
use Rattle.salt_ast.specs.declared.trees.TableDef.{TableDef}
use Rattle.salt_model.specs.Statements.{serial}
use Rattle.salt_model.specs.Tables.{Tables}
use Rattle.salt_model.specs.declared.events.End.TheVariants as end
use Rattle.salt_model.specs.declared.events.End.{End}
use Rattle.salt_model.specs.declared.events.Event.TheVariants as event
use Rattle.salt_model.specs.declared.events.Event.{Event}
use Rattle.salt_values.specs.Id.{has_id, is_same_id}
use Rattle.salt_values.specs.declared.id.Id.{Id}
use Rattle.salt_verdict.proofs.Listed.{agreeing}
use Rattle.salt_verdict.specs.After.{IsAfter, fresh, one_more}
use Rattle.salt_verdict.specs.Ledger.{AreFaithful, act_in, answers_in, done_in, is_unfaithful, may_change, unfaithful_by, unfaithful_in, vars_in}
use Rattle.salt_verdict.specs.Made.{tables_made}
use Rattle.salt_verdict.specs.Variables.{vars_begun}
use Rattle.salt_verdict.specs.declared.ledger.Act.{Act}
use Rattle.salt_verdict.specs.declared.ledger.Ledger.{Ledger}
use Rattle.std.proofs.Common.{Bool, List, None, Option, Some, [], ap, false, if◌then◌else◌, not, refl, subst, sym, true, true≢false, ◌&&◌, ◌||◌, ◌∙◌, ◌∷◌, ◌≡◌}

-- by the tables, the schema and what the unit has done
abbrev unfaithful_on : List TableDef → Tables → Option Act → Bool
unfaithful_on schema es act = not (same_all is_same_answer (answers_in act) (serial schema es (vars_in act) (done_in act)).answers)

module _ (l m : Ledger) (faithful : AreFaithful l) where
  none_before : (u : Id) → In u l.active.items → is_unfaithful l u ≡ false
  none_before u i = by (is_unfaithful l u) refl
    where
      by : (t : Bool) → is_unfaithful l u ≡ t → t ≡ false
      by true is = absurd (subst (In u) faithful (into-filter (is_unfaithful l) u l.active.items i is))
      by false is = refl

  -- nothing changes for the unit
  stays : (u : Id) → In u l.active.items → m.state.schema ≡ l.state.schema → tables_made m.rows ≡ tables_made l.rows → act_in u m.acts ≡ act_in u l.acts → is_unfaithful m u ≡ false
  stays u i schema rows acts = (λ k. unfaithful_on (schema k) (rows k) (acts k)) ∙ none_before u i

  -- a unit that begins has done nothing
  begins : (u : Id) (act : Act) → act.done ≡ [] → act.answers ≡ [] → act_in u m.acts ≡ Some act → is_unfaithful m u ≡ false
  begins u act done answers is =
      ap (unfaithful_on m.state.schema (tables_made m.rows)) is
      ∙ (λ k. not (same_all is_same_answer (answers k) (serial m.state.schema (tables_made m.rows) act.vars (done k)).answers))

  others_faithful : (e : Event) → IsAfter l m e → (u : Id) → In u m.active.items → may_change e u ≡ false → is_unfaithful m u ≡ false
  others_faithful (event.Began v kind) after u i no_change =
      either (λ (j : In u l.active.items). old j (is_same_id u v) refl) (λ (j : In u (v ∷ [])). either (λ (e : v ≡ u). new (subst (λ (x : Id). is_same_id u x ≡ true) (sym e) (is_same_id-refl u))) (λ none. absurd none) j)
      (in-cases u l.active.items (v ∷ []) (subst (In u) after.active i))
    where
      fresh_act : Act
      fresh_act = fresh (vars_begun l.state.catalogue l.state.conts kind)

      new : is_same_id u v ≡ true → is_unfaithful m u ≡ false
      new same = begins u fresh_act refl refl (after.acts u ∙ ap (λ (t : Bool). if t then Some fresh_act else act_in u l.acts) same)

      old : In u l.active.items → (t : Bool) → is_same_id u v ≡ t → is_unfaithful m u ≡ false
      old j true same = new same
      old j false other = stays u j after.state.schema after.rows (after.acts u ∙ ap (λ (t : Bool). if t then Some fresh_act else act_in u l.acts) other)
  others_faithful (event.Did v st a) after u i other =
      stays u (subst (In u) after.active i) after.state.schema after.rows (after.acts u ∙ ap (λ (t : Bool). if t then Some (one_more st a (act_in v l.acts)) else act_in u l.acts) other)
  others_faithful (event.Ended v how) after u i no_change = by how after no_change
    where
      left : (d : End) → IsAfter l m (event.Ended v d) → In u l.active.items
      left d w = (in-filter (λ (x : Id). not (has_id x (v ∷ []))) u l.active.items (subst (In u) w.active i)).0

      not_one : (b : Bool) → not (b || false) ≡ true → b ≡ false
      not_one true none = absurd cc
      not_one false none = refl

      other : (d : End) → IsAfter l m (event.Ended v d) → is_same_id u v ≡ false
      other d w = not_one (is_same_id u v) (in-filter (λ (x : Id). not (has_id x (v ∷ []))) u l.active.items (subst (In u) w.active i)).1

      act : (d : End) → IsAfter l m (event.Ended v d) → act_in u m.acts ≡ act_in u l.acts
      act d w = w.acts u ∙ ap (λ (t : Bool). if t then None else act_in u l.acts) (other d w)

      by : (d : End) → IsAfter l m (event.Ended v d) → may_change (event.Ended v d) u ≡ false → is_unfaithful m u ≡ false
      by (end.Committed n) w none = absurd (true≢false none)
      by (end.Failed c) w none = stays u (left (end.Failed c) w) w.state.schema w.rows (act (end.Failed c) w)
      by (end.Branched n c) w none = stays u (left (end.Branched n c) w) w.state.schema w.rows (act (end.Branched n c) w)
      by end.Cut w none = stays u (left end.Cut w) w.state.schema w.rows (act end.Cut w)
      by end.RolledBack w none = stays u (left end.RolledBack w) w.state.schema w.rows (act end.RolledBack w)
      by end.Victim w none = stays u (left end.Victim w) w.state.schema w.rows (act end.Victim w)
  others_faithful (event.Defined n text) after u i none = absurd (true≢false none)
  others_faithful (event.Waits v os) after u i none = stays u (subst (In u) after.active i) after.state.schema after.rows (after.acts u)
  others_faithful (event.Accepted b) after u i none = stays u (subst (In u) after.active i) after.state.schema after.rows (after.acts u)
  others_faithful (event.Finished b) after u i none = stays u (subst (In u) after.active i) after.state.schema after.rows (after.acts u)
  others_faithful (event.Released bs) after u i none = stays u (subst (In u) after.active i) after.state.schema after.rows (after.acts u)
  others_faithful (event.Early bs) after u i none = stays u (subst (In u) after.active i) after.state.schema after.rows (after.acts u)
  others_faithful (event.Down w) after u i none = stays u (subst (In u) after.active i) after.state.schema after.rows (after.acts u)
  others_faithful (event.Opened boot n) after u i none = stays u (subst (In u) after.active i) after.state.schema after.rows (after.acts u)
  others_faithful event.Ready after u i none = stays u (subst (In u) after.active i) after.state.schema after.rows (after.acts u)
  others_faithful (event.Refused r) after u i none = stays u (subst (In u) after.active i) after.state.schema after.rows (after.acts u)
  others_faithful (event.Armed pairs) after u i none = stays u (subst (In u) after.active i) after.state.schema after.rows (after.acts u)
  others_faithful (event.Shown items) after u i none = stays u (subst (In u) after.active i) after.state.schema after.rows (after.acts u)

  pub changed_alone : (e : Event) → IsAfter l m e → unfaithful_in m ≡ unfaithful_by e m
  changed_alone e after = agreeing (is_unfaithful m) (λ (u : Id). may_change e u && is_unfaithful m u) m.active.items (λ u i. by u i (may_change e u) refl)
    where
      by : (u : Id) → In u m.active.items → (t : Bool) → may_change e u ≡ t → is_unfaithful m u ≡ (t && is_unfaithful m u)
      by u i true is = refl
      by u i false is = others_faithful e after u i is
