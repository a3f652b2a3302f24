use Rattle.salt_waits.proofs.Followed.{goes_on, left_within, none_is_left, reads, row_within, starts, told_by}
use Rattle.salt_waits.proofs.walk.is_on_cycle.Goals as goal
use Rattle.salt_waits.specs.Walks.{Adds}
use Rattle.std.proofs.Common.{rules, All, ◌<◌, length, refl, subst, sym}
use Rattle.std.proofs.lemmas.Option.{slice_get_read}

pub loop-vertex-init : goal.loop-vertex-init
loop-vertex-init c =
    let graph = c.args.graph.now in
    let is = slice_get_read graph _ c.args.start c.index-graph-start.result refl c.requires.start c.index-graph-start.is in
    starts graph c.args.start c.index-graph-start.result c.in_ok-walk.walk c.see_all.new.self is c.in_ok-walk.ensures (subst (λ vs. Adds vs c.in_ok-walk.walk c.see_all.new.self) c.deref.ensures.value c.in_ok-see_all.ensures)

pub bounds-graph-vertex : goal.bounds-graph-vertex
bounds-graph-vertex c = left_within c.args.graph.now c.args.start c.in-Some.vertex c.loop-vertex.walk c.pop.new.self.items c.loop-vertex.invariant c.in-Some.ensures.items

pub offset_bounds-graph-vertex : goal.offset_bounds-graph-vertex
offset_bounds-graph-vertex c =
    let below = left_within c.args.graph.now c.args.start c.in-Some.vertex c.loop-vertex.walk c.pop.new.self.items c.loop-vertex.invariant c.in-Some.ensures.items in
    search (rules, below)

pub see_all-requires-in-Some : goal.see_all-requires-in-Some
see_all-requires-in-Some c =
    let graph = c.args.graph.now in
    let below = left_within graph c.args.start c.in-Some.vertex c.loop-vertex.walk c.pop.new.self.items c.loop-vertex.invariant c.in-Some.ensures.items in
    let is = slice_get_read graph _ c.in-Some.vertex c.index-graph-vertex.result refl below c.index-graph-vertex.is in
    let within = row_within graph (length graph) c.in-Some.vertex c.index-graph-vertex.result c.requires.graph below is in
    subst (λ n. All (λ v. v < n) c.deref-in-Some.result.now) (sym c.loop-vertex.invariant.long) (subst (All (λ v. v < length graph)) (sym c.deref-in-Some.ensures.value) within)

pub loop-vertex-preserved : goal.loop-vertex-preserved
loop-vertex-preserved c =
    let graph = c.args.graph.now in
    let below = left_within graph c.args.start c.in-Some.vertex c.loop-vertex.walk c.pop.new.self.items c.loop-vertex.invariant c.in-Some.ensures.items in
    let is = slice_get_read graph _ c.in-Some.vertex c.index-graph-vertex.result refl below c.index-graph-vertex.is in
    goes_on graph c.args.start c.in-Some.vertex c.index-graph-vertex.result c.loop-vertex.walk (record { seen = c.loop-vertex.walk.seen; left = c.pop.new.self }) c.see_all-in-Some.new.self is c.loop-vertex.invariant c.in-Some.ensures.items refl
    (subst (λ vs. Adds vs (record { seen = c.loop-vertex.walk.seen; left = c.pop.new.self }) c.see_all-in-Some.new.self) c.deref-in-Some.ensures.value c.in_ok-see_all-2.ensures)

pub returns : goal.returns
returns c =
    let walk = c.loop-vertex.walk in
    let none = none_is_left walk.left.items (λ more. absurd (cc (c.in_default.is, c.in_default.ensures.variant.1 more))) in
    let told = told_by c.args.graph.now c.args.start walk c.loop-vertex.invariant none c.args.start in
    let below = subst (λ n. c.args.start < n) (sym c.loop-vertex.invariant.long) c.requires.start in
    let read = reads walk.seen.items c.args.start c.index.result.now below c.index.ensures in
    (λ yes. told.0 (read.1 yes), λ leads. read.0 (told.1 leads))
