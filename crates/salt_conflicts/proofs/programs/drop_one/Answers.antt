use Rattle.law_states.specs.Rising.{Rising}
use Rattle.salt_conflicts.proofs.Naming.{AreCut, not-gone, not-there, rising-removed, there-gone}
use Rattle.salt_conflicts.proofs.programs.drop_one.Goals as goal
use Rattle.salt_values.specs.declared.id.Id.{Id}
use Rattle.std.proofs.Common.{List, length, subst, sym, ◌<◌, ◌≡◌, ◌∙◌}
use Rattle.std.specs.Prelude.{get_or}

pub remove-requires : goal.remove-requires
remove-requires c = subst (λ (l : List Id). c.count_older-at.result < length l) c.as_slice-2.ensures (c.is_at.ensures.there c.if-not-is_at.false).0

pub returns-then-not-is_at-clause-dropped : goal.returns-then-not-is_at-clause-dropped
returns-then-not-is_at-clause-dropped c =
    let names = c.args.names.now in
    let name = c.args.name in
    let at = c.count_older-at.result in
    let cut = subst (λ (l : List Id). AreCut name l at) c.as_slice.ensures c.count_older-at.ensures.counted in
    let another = subst (λ (l : List Id). at < length l → (d : Id) → get_or l at d ≡ name → ⊥) c.as_slice-2.ensures (c.is_at.ensures.another c.if-not-is_at.true) in
    sym (not-gone name names (not-there name names at c.requires cut another))

pub returns-clause-dropped : goal.returns-clause-dropped
returns-clause-dropped c =
    let names = c.args.names.now in
    let name = c.args.name in
    let at = c.count_older-at.result in
    let there = subst (λ (l : List Id). (at < length l) × ((d : Id) → get_or l at d ≡ name)) c.as_slice-2.ensures (c.is_at.ensures.there c.if-not-is_at.false) in
    c.remove.ensures ∙ sym (there-gone name names at name c.requires there.0 (there.1 name))

pub returns-clause-rising : goal.returns-clause-rising
returns-clause-rising c = subst Rising (sym c.remove.ensures) (rising-removed c.args.names.now c.count_older-at.result c.requires)
