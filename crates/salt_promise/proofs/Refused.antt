-- Two more runs that are as promised: the first device of the partition is full; and numbers are spent.
use Rattle.salt_bytes.specs.Generations.{content_of, pair_of}
use Rattle.salt_bytes.specs.Log.{entries_in, entries_up_to, framed, split_payload}
use Rattle.salt_model.specs.Words.{and_then}
use Rattle.salt_stands.specs.Fitting.{definitions_reading}
use Rattle.salt_disk.specs.Disks.{AreUnchanged, IsImage, View}
use Rattle.salt_model.specs.Kept.{Definition, WellKept, nothing_kept}
use Rattle.salt_model.specs.Played.{IsPlayed}
use Rattle.salt_model.specs.Trace.{Start, Trace, from, start_of}
use Rattle.salt_promise.proofs.Devices.{beside-logs}
use Rattle.salt_promise.specs.Ending.{StandsBehind}
use Rattle.salt_promise.specs.Filling.{FirstFills}
use Rattle.salt_promise.specs.Given.{Run, Stream}
use Rattle.salt_promise.specs.declared.command.Command.TheVariants.{Script}
use Rattle.salt_promise.specs.declared.status.Status.TheVariants.{DeviceFull, NumbersSpent}
use Rattle.salt_promise.specs.declared.status.Status.{Status}
use Rattle.salt_promise.specs.Promises.{Promises}
use Rattle.salt_promise.specs.Runs.{Runs, runs_as}
use Rattle.salt_promise.specs.Standing.{IsReader, OpenAs}
use Rattle.salt_promise.specs.Worked.{ample, begun, blank, header_at, holding, on, one_part}
use Rattle.salt_stands.specs.Coordinator.{coordinator_at, judge_coordinator}
use Rattle.salt_stands.specs.CoordinatorLog.{coordinator_generation, coordinator_in}
use Rattle.salt_stands.specs.Stands as opening
use Rattle.salt_stands.specs.Stands.{logs_of, nothing_found, opening_of, with_parts}
use Rattle.std.proofs.Common.{ap, arith, inl, inr, subst, ◌∙◌}
use Rattle.std.specs.Prelude.{List, None, Ok, Option, Some, [], false, refl, suc, true, zero, ℕ, ◌^◌, ◌∷◌, ◌≡◌}

abbrev quiet : Stream
quiet = record { bytes = Some []; faults = 0 }

-- over these devices, of an empty script, with nothing told
abbrev run : (before after : View) → Status → Run
run before after status = record {
  command = Some (Script one_part false false);
  before = record { source = quiet; sink = quiet; devices = before };
  after = record { source = quiet; sink = quiet; devices = after };
  status = status;
  flight = None;
  story = [];
  net = None;
}

-- device 2 has no room
abbrev tight : ℕ → ℕ
tight zero = 67108864
tight (suc zero) = 67108864
tight (suc (suc zero)) = 0
tight (suc (suc (suc dev))) = 67108864

-- log B of the partition is created before log A
abbrev created : ℕ → List ℕ
created = on ([] ∷ [] ∷ [] ∷ (0 ∷ []) ∷ [])

abbrev full : Run
full = run (holding tight blank []) (holding tight created []) (DeviceFull 2)

abbrev start : Start
start = record { kept = nothing_kept; can_stop = true; early = false; over_net = false }

first-fills : FirstFills full.after.devices one_part 2
unfolding entries_in
first-fills = record { blank = refl; fills = inl (0, omega arith, inr (refl, omega arith)) }

module _ (read : List ℕ → Option Definition) (reads : IsReader read) where
  opens : OpenAs one_part blank nothing_kept
  unfolding entries_in
  opens = record { found = nothing_found one_part; answers = record { read = read; reads = reads; is = refl }; keeps = refl }

  blank-stands : coordinator_at (definitions_reading read) (logs_of created) ≡ Ok None
  unfolding entries_in
  blank-stands = refl

  image-blank : (image : ℕ → List ℕ) → IsImage full.after.devices image → coordinator_at (definitions_reading read) (logs_of image) ≡ Ok None
  image-blank image is =
      ap (λ x. judge_coordinator (definitions_reading read) (pair_of coordinator_generation (content_of coordinator_in (entries_in x)) (content_of coordinator_in (logs_of image 1)))) (is 0 (omega arith))
      ∙ ap (λ x. judge_coordinator (definitions_reading read) (pair_of coordinator_generation (content_of coordinator_in (logs_of created 0)) (content_of coordinator_in (entries_in x)))) (is 1 (omega arith))
      ∙ blank-stands

  images : (image : ℕ → List ℕ) → IsImage full.after.devices image → StandsBehind full one_part (from start) image
  images image is = record {
    kept = nothing_kept;
    stands = record {
      read = read;
      reads = reads;
      found = nothing_found one_part;
      is = ap (λ r. and_then r (with_parts (definitions_reading read) (logs_of image) image one_part)) (image-blank image is);
      has_shape = refl;
      keeps = refl;
    };
    is = record { boots = 0; most = omega arith; is = inl refl };
    numbers = tt;
  }

  pub full-device : ((t : Trace) → IsPlayed t → WellKept (start_of t).kept → Promises t) → Runs full
  full-device law = runs_as refl (record {
    goes = λ tells. inr (record {
      start = start;
      trace = from start;
      opens = λ told. opens;
      well = well;
      can_stop = refl;
      early = refl;
      over_net = refl;
      net = refl;
      agreed = tt;
      tells = record { begins = refl; told = refl; played = tt };
      promises = law (from start) tt well;
      unspent = tt;
      drains = λ opening. absurd (cc opening);
      stops = record { stops = []; behind = refl; are = refl };
      does = record { texts = []; asked = tt; lines = record { got = []; front = ([], refl); within = omega arith; lines = refl; first = ([], refl) }; written = refl };
      may = tt;
      leaves = refl;
      flies = refl;
      ends = record { images = λ told image is. images image is; spent = λ boot decisions e. absurd cc; full = λ dev e told. inl (fills dev e) };
    });
    source = refl;
    sink = refl;
    downs = omega arith;
    stops = λ tells off. record { stops = []; behind = refl; are = refl };
    shape = record { count = refl; can_stop = refl; told = refl; limit = λ dev. refl };
    others = λ told dev low out c h. h ∙ beside-logs [] [] [] (0 ∷ []) dev out;
  })
    where
      well : WellKept nothing_kept
      well = record { boots = tt; accepted = tt; defined = tt; tries = tt }

      fills : (dev : ℕ) → DeviceFull 2 ≡ DeviceFull dev → FirstFills full.after.devices one_part dev
      fills dev e = subst (FirstFills full.after.devices one_part) (dev-is dev e) first-fills
        where
          dev-is : (dev : ℕ) → DeviceFull 2 ≡ DeviceFull dev → 2 ≡ dev
          dev-is dev e = cc

  -- boot 2^63 stands, and the opening says so
  spent-answer : opening_of (definitions_reading read) (begun (header_at (2 ^ 63)) []) one_part ≡ opening.NumbersSpent (2 ^ 63) 0
  unfolding entries_in entries_up_to split_payload framed
  spent-answer = refl

  pub spent-numbers : Runs (run (holding ample (begun (header_at (2 ^ 63)) []) []) (holding ample (begun (header_at (2 ^ 63)) []) []) (NumbersSpent (2 ^ 63) 0))
  spent-numbers = runs_as refl (record {
    goes = λ tells. inl (record {
      answer = opening.NumbersSpent (2 ^ 63) 0;
      is = λ told. record { read = read; reads = reads; is = spent-answer };
      ends = refl;
      story = refl;
      flight = refl;
      net = refl;
      does = record { texts = []; asked = tt; lines = record { got = []; front = ([], refl); within = omega arith; lines = refl; first = ([], refl) }; written = refl };
      devices = λ told. record { images = λ dev c h. h; unchanged = λ e. same };
    });
    source = refl;
    sink = refl;
    downs = omega arith;
    stops = λ tells off. record { stops = []; behind = refl; are = refl };
    shape = record { count = refl; can_stop = refl; told = refl; limit = λ dev. refl };
    others = λ told dev low out c h. h;
  })
    where
      same : AreUnchanged (holding ample (begun (header_at (2 ^ 63)) []) []) (holding ample (begun (header_at (2 ^ 63)) []) [])
      same = record { shape = record { count = refl; can_stop = refl; told = refl; limit = λ dev. refl }; each = λ dev. record { bytes = refl; images = λ c h. h } }
