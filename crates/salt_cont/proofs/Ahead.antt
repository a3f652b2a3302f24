-- Where a way leads is a number of 32 bits.
use Rattle.salt_ast.proofs.Ways.{branch_leads_on, commit_leads_on}
use Rattle.salt_ast.specs.Paths.{next_on_branch, next_on_commit}
use Rattle.salt_ast.specs.declared.programs.PartDef.{PartDef}
use Rattle.salt_cont.specs.Moves.{LeadOn, position_meant}
use Rattle.salt_cont.specs.declared.places.Place.{Place}
use Rattle.std.proofs.Common.{List, None, Option, Some, arith, sym, ℕ, ◌<◌, ◌^◌, ◌≡◌}
use Rattle.std.specs.Prelude.{IfSome, option_map}

pub commit_small : (parts : List PartDef) (k : ℕ) (o : Option Place) → LeadOn parts → option_map position_meant o ≡ next_on_commit parts k →
    IfSome o (λ (p : Place). p.part < 2 ^ 32)
commit_small parts k None on is = tt
commit_small parts k (Some p) on is =
    let ahead = commit_leads_on parts on.sound k (position_meant p) (sym is) in
    let few = on.few in
    omega (arith, ahead.1, few)

pub branch_small : (parts : List PartDef) (k : ℕ) (o : Option Place) → LeadOn parts → option_map position_meant o ≡ next_on_branch parts k →
    IfSome o (λ (p : Place). p.part < 2 ^ 32)
branch_small parts k None on is = tt
branch_small parts k (Some p) on is =
    let ahead = branch_leads_on parts on.sound k (position_meant p) (sym is) in
    let few = on.few in
    omega (arith, ahead.1, few)
