use Rattle.salt_bytes.specs.Coordinator.{is_number_of_parts}
use Rattle.salt_decisions.proofs.Contents.{read_all, read_none}
use Rattle.salt_decisions.proofs.read.read_entries.Goals as goal
use Rattle.salt_decisions.specs.Header.{header_of}
use Rattle.salt_decisions.specs.Read.{HearsAll}
use Rattle.salt_decisions.specs.Said.{SaysTold}
use Rattle.salt_stands.specs.CoordinatorLog.{told_by_header}
use Rattle.std.proofs.lemmas.Bool.Decides.{nat_tests}
use Rattle.std.proofs.Common.{arith, false, refl, subst, sym, true, ℕ, ◌≡◌, ◌≤◌, ◌∙◌}

pub returns-then-not-branch-clause-content : goal.returns-then-not-branch-clause-content
returns-then-not-branch-clause-content g c entries first is stands reads =
    let header = c.args.header in
    let d = g.D.Disks.view c.args.disks.now in
    let e = g.D.Disks.view c.hear_all.new.disks in
    let no : c.in_ok-hear_all.field-0 ≡ false = cc in
    let says : SaysTold _ (told_by_header (header_of header)) = record { boot = refl; decisions = refl; definitions = refl; decided = c.new.ensures; masks = c.new-2.ensures; moves = c.new-3.ensures } in
    let h = c.in_ok-hear_all.ensures.heard (told_by_header (header_of header)) says in
    read_none header first reads d e c.args.gate c.hear_all.new.gate entries is stands c.hear_all.new.said (c.in_ok-hear_all.ensures.log entries is) c.in_ok-hear_all.ensures.same.device (λ t. sym c.in_ok-hear_all.ensures.kept.shape.told ∙ t)
    (subst (HearsAll d c.args.gate header.shape.parts (told_by_header (header_of header)) c.hear_all.new.said) no h)

pub returns-clause-content : goal.returns-clause-content
returns-clause-content g c entries first is stands reads =
    let header = c.args.header in
    let d = g.D.Disks.view c.args.disks.now in
    let e = g.D.Disks.view c.hear_all.new.disks in
    let yes : c.in_ok-hear_all.field-0 ≡ true = cc in
    let says : SaysTold _ (told_by_header (header_of header)) = record { boot = refl; decisions = refl; definitions = refl; decided = c.new.ensures; masks = c.new-2.ensures; moves = c.new-3.ensures } in
    let h = c.in_ok-hear_all.ensures.heard (told_by_header (header_of header)) says in
    read_all header first reads d e c.args.gate c.hear_all.new.gate entries is stands c.hear_all.new.said (c.in_ok-hear_all.ensures.log entries is) c.in_ok-hear_all.ensures.same.device (λ t. sym c.in_ok-hear_all.ensures.kept.shape.told ∙ t)
    _ refl refl refl refl refl c.requires.parts refl
    (subst (HearsAll d c.args.gate header.shape.parts (told_by_header (header_of header)) c.hear_all.new.said) yes h)

pub hear_all-requires-clause-parts : goal.hear_all-requires-clause-parts
hear_all-requires-clause-parts g c = few c.args.header.shape.parts c.requires.parts
  where
    few : (n : ℕ) → is_number_of_parts n ≡ true → n ≤ 8
    few n h = grind (arith, nat_tests)
