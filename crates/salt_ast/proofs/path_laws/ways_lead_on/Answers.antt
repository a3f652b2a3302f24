use Rattle.salt_ast.proofs.Ways.{branch_leads_on, commit_leads_on}
use Rattle.salt_ast.proofs.path_laws.ways_lead_on.Goals as goal

pub returns : goal.returns
returns c = record {
  commit = λ parts k at sound. commit_leads_on parts sound k at;
  branch = λ parts k at sound. branch_leads_on parts sound k at;
}
