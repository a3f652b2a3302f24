use Rattle.salt_bytes.specs.Changes.{are_in_order}
use Rattle.salt_bytes.specs.Log.{entries_in}
use Rattle.salt_bytes.specs.Partition.{prepared_in, spell_prepared}
use Rattle.salt_bytes.specs.Spellable.{Every}
use Rattle.salt_codec.specs.Entries.{CanBePut}
use Rattle.salt_disk.specs.Disks.{EachImage}
use Rattle.salt_gatelog.specs.Log as gates
use Rattle.salt_gatelog.specs.Log.{IsBeforeOrWith, IsLog, payload_in}
use Rattle.salt_partition.proofs.Standing.{entries_stand, with_unit}
use Rattle.salt_partition.proofs.Steps.{on_ok}
use Rattle.salt_partition.proofs.partition.Partition.prepare.Goals as goal
use Rattle.salt_partition.specs.Partitions.{IsPartition, StandsFor, log_device, prepared}
use Rattle.salt_partition.specs.declared.partition.Partition.{Partition}
use Rattle.salt_values.specs.declared.change.Change.{Change}
use Rattle.std.proofs.Common.{Bool, List, Some, [], ap, refl, subst, sym, true, ℕ, ◌++◌, ◌≡◌, ◌∙◌, ◌∷◌}

pub returns-clause-ok : goal.returns-clause-ok
returns-clause-ok g c p v applied is may =
    let d = g.D.Disks.view c.args.disks.now in
    let e = g.D.Disks.view c.append_frame.new.disks in
    let x = c.self.inside in
    let u = c.args.unit in
    let was = subst (λ (x : Partition). IsPartition d x p v applied) (sym c.self.view_is) is in
    let spelled : payload_in c.in_ok-frame.frame.items ≡ spell_prepared (prepared u c.args.changes.now) = c.in_ok-frame.ensures.payload ∙ ap (λ (cs : List Change). spell_prepared (prepared u cs)) c.as_slice.ensures in
    let reads = subst (λ (cs : List Change). (nulls : Bool) → Every (CanBePut nulls) cs → are_in_order cs ≡ true → prepared_in nulls (spell_prepared (prepared u cs)) ≡ Some (prepared u cs)) c.as_slice.ensures c.in_ok-frame.ensures.read in
    on_ok (λ dev. dev ≡ gates.device_of x.log) d e c.append_frame.result (IsLog e c.append_frame.new.self (was.entries ++ payload_in c.in_ok-frame.frame.items ∷ [])) _ (c.append_frame.ensures.ok was.entries was.is_log) c.append_frame.ensures.others
    (λ is_log others. with_unit d e _ _ p v applied was u c.args.changes.now may reads others refl refl refl (record { unit = u; changes = c.in_ok-changes.changes }) refl (ap (λ (cs : List Change). prepared u cs) (c.in_ok-changes.ensures ∙ c.as_slice-2.ensures)) c.append_frame.ensures.device
    (subst (λ (bytes : List ℕ). IsLog e c.append_frame.new.self (was.entries ++ bytes ∷ [])) spelled is_log))

pub returns-clause-images : goal.returns-clause-images
returns-clause-images g c entries told stand =
    let d = g.D.Disks.view c.args.disks.now in
    let e = g.D.Disks.view c.append_frame.new.disks in
    let x = c.self.inside in
    let u = c.args.unit in
    let r = subst (λ (x : Partition). StandsFor d x u c.args.changes.now) (sym c.self.view_is) c.requires in
    let is = r.is in
    let spelled : payload_in c.in_ok-frame.frame.items ≡ spell_prepared (prepared u c.args.changes.now) = c.in_ok-frame.ensures.payload ∙ ap (λ (cs : List Change). spell_prepared (prepared u cs)) c.as_slice.ensures in
    let there = subst (λ (y : Partition). entries_in (d.bytes (log_device y)) ≡ Some entries) (sym c.self.view_is) stand in
    let both : Some is.entries ≡ Some entries = sym (entries_stand d x.log is.entries is.is_log told) ∙ there in
    let same : is.entries ≡ entries = cc both in
    subst (λ (y : Partition). EachImage e (log_device y) (IsBeforeOrWith entries (spell_prepared (prepared u c.args.changes.now)))) c.self.view_is
    (subst (λ (es : List (List ℕ)). EachImage e (gates.device_of x.log) (IsBeforeOrWith es (spell_prepared (prepared u c.args.changes.now)))) same
    (subst (λ (bytes : List ℕ). EachImage e (gates.device_of x.log) (IsBeforeOrWith is.entries bytes)) spelled (c.append_frame.ensures.images is.entries is.is_log)))
