use Rattle.law_states.specs.Overlays.{Edit, edits_of, put_all, with_edits}
use Rattle.salt_model.specs.Tables.{no_rows}
use Rattle.salt_units.specs.Acting.{HaveTheirKeys}
use Rattle.salt_values.specs.declared.change.Change.{Change}
use Rattle.salt_verdict.proofs.Doing.{OfEdits, changed_as, kept_after, keys_each, make_all, on_ok}
use Rattle.salt_verdict.proofs.rows.Rows.commit.Goals as goal
use Rattle.std.proofs.Common.{List, ap, subst, sym, ◌∙◌}

pub invariant_of-self : goal.invariant_of-self
invariant_of-self c =
    let old = c.args.self.now.changes.items in
    let cs = c.from_vec.result in
    let keys = c.rows_stay_at_their_keys.ensures.edits c.args.changes.items (edits_of old) (keys_each c.args.changes.items c.requires) c.args.self.now.have_keys in
    let after = kept_after c.put_changes.result cs old c.put_changes.new.changes.items c.put_changes.ensures.put c.put_changes.ensures.err c.args.self.now.in_order c.args.self.now.have_keys
    (subst (λ (l : List Change). HaveTheirKeys (put_all l (edits_of old))) (sym (c.from_vec.ensures ∙ c.into_vec.ensures.items)) keys) in
    record { in_order = after.0; have_keys = after.1 }

pub returns : goal.returns
returns c =
    let laws : OfEdits = record { rows = λ ds es q o. c.edits_make_the_tables.ensures.rows ds es q o; made = λ ds es now o h. c.edits_make_the_tables.ensures.made ds es now o h } in
    let old = c.args.self.now.changes.items in
    on_ok c.put_changes.result _ _
    (λ put. ap (λ (ds : List Edit). with_edits ds no_rows) put
    ∙ sym (make_all laws no_rows c.from_vec.result (edits_of old) c.args.self.now.in_order)
    ∙ changed_as c.from_vec.result (with_edits (edits_of old) no_rows)
    ∙ ap (λ (l : List Change). with_edits (edits_of l) (with_edits (edits_of old) no_rows)) (c.from_vec.ensures ∙ c.into_vec.ensures.items))
    c.put_changes.ensures.put
