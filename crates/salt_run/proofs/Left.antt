-- What a run leaves of its devices is as promised.
use Rattle.law_definitions.specs.Texts.{definition_in}
use Rattle.salt_model.specs.Played.{IsPlayed}
use Rattle.salt_model.specs.Trace.{Trace}
use Rattle.salt_promise.specs.Ending.{Ends}
use Rattle.salt_promise.specs.Given.{Run}
use Rattle.salt_promise.specs.Standing.{IsReader}
use Rattle.salt_run.proofs.Full.{full-behind}
use Rattle.salt_run.proofs.Standing.{stand-for}
use Rattle.salt_run.specs.Ending.{EndsBehind}
use Rattle.salt_place.specs.declared.placement.Shape.{Shape}

pub ends-as : IsReader definition_in → (r : Run) (shape : Shape) (trace : Trace) → IsPlayed trace → EndsBehind r.after.devices shape r.status r.flight trace → Ends r shape trace
ends-as reads r shape trace played x = record {
  images = λ told image is.
      let s = x.images told image is in record {
        kept = s.found;
        stands = stand-for reads shape image s.found s.stands;
        is = s.is;
        numbers = s.numbers;
      };
  spent = x.spent;
  full = λ dev is told. full-behind r.after.devices shape trace dev played (x.full dev is told);
}
