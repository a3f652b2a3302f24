use Rattle.salt_judge.proofs.start.no_meetings.Goals as goal
use Rattle.salt_audit.specs.Retelling.{retold}
use Rattle.salt_judge.specs.Meetings.{counts_met, met_told, touch_told}
use Rattle.salt_judge.specs.declared.met.Met.{Met}
use Rattle.std.proofs.Common.{List, [], ap, map, refl, sym}
use Rattle.std.specs.List.{filter}

pub returns : goal.returns
returns c = record {
  taken = ap (map touch_told) (sym c.new.ensures.items);
  begun = tt;
  fresh = λ u none. refl;
  met = ap (λ (ms : List Met). filter (counts_met (retold [])) (map met_told ms)) (sym c.new-2.ensures);
  committed = λ u. sym (c.no_endings.ensures u);
}
