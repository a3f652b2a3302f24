-- The lines of a workload, one after another.
use Rattle.salt_ast.specs.Sample.{transfer}
use Rattle.salt_ast.specs.declared.lines.Line.{Line}
use Rattle.law_states.specs.Points.{Point}
use Rattle.law_states.specs.States.{State}
use Rattle.salt_disk.specs.Disks.{View}
use Rattle.salt_promise.specs.Workload.{account_def, balance, behind, behind_eighth, behind_fiftieth, call_lines, calls, closing, deposit, load_lines, opening, turn}
use Rattle.salt_model.specs.Arming.{armed_by_lines}
use Rattle.salt_model.specs.Printable.{IsSpelledProgram, IsSpelledTable}
use Rattle.salt_model.specs.Trace.{Asked, Start, Trace, Tree, lines_asked}
use Rattle.salt_model.specs.Words.{Every}
use Rattle.salt_model.specs.declared.events.Event.{Event}
use Rattle.salt_model.specs.declared.events.Flight.{Flight}
use Rattle.salt_promise.specs.Counting.{Stops}
use Rattle.salt_promise.specs.Doing.{IsFrontOf}
use Rattle.salt_promise.specs.declared.status.Status.{Status}
use Rattle.salt_promise.specs.declared.status.Status.TheVariants as status
use Rattle.salt_loop.proofs.Armed.{opening-ends, opening-stays, stops-are}
use Rattle.salt_loop.proofs.Beginning.{of-reason, often-asked, often-tells, often-unspent, unfound-flies, unfound-leaves}
use Rattle.salt_loop.proofs.Leaving.{done-leaves, short-leaves}
use Rattle.salt_loop.proofs.Texts.{of-later}
use Rattle.salt_loop.specs.Armed.{EndsArmed, StaysArmed}
use Rattle.salt_loop.specs.Ending.{EndsOpening, LeavesAt}
use Rattle.salt_loop.specs.Loading.{AreLoadLines, EndsLoading, IsLoading, IsPlayedLoad, asked_by_load, load_run}
use Rattle.salt_loop.specs.Serving.{EndsResuming, IsAskable}
use Rattle.salt_loop.specs.Stopping.{IsLaterStop, IsOfDevices, answer_of, status_of, stop_opening}
use Rattle.salt_loop.specs.declared.stop.Stop.TheVariants as stop
use Rattle.salt_loop.specs.declared.stop.Stop.{Stop}
use Rattle.salt_driver.specs.Devices.{OnDevices}
use Rattle.salt_driver.specs.Counting.{CountsOpening}
use Rattle.salt_driver.specs.Opening.{IsUnfound, fallen_often}
use Rattle.salt_driver.specs.Reopening.{ReopensRun}
use Rattle.salt_driver.specs.Serving.{BreaksByLine, GoesByLine}
use Rattle.salt_driver.specs.Standing.{IsIdleAt, IsSoundPoint}
use Rattle.salt_storage.specs.Answers.{IsLater}
use Rattle.salt_storage.specs.declared.halt.Halt.TheVariants.{Memory}
use Rattle.salt_storage.specs.declared.halt.Halt.{Halt}
use Rattle.salt_storage.specs.OpenErr.{OpenErr}
use Rattle.law_types.specs.Played.{HasKey}
use Rattle.std.proofs.Common.{ap, arith, get_or, inl, inr, subst, suc, sym, take, zero, ◌∙◌}
use Rattle.std.proofs.lemmas.List.{take_all, take_more}
use Rattle.std.specs.List.{flat_map, range_with_len}
use Rattle.std.specs.Prelude.{Bool, List, None, Option, Some, [], cond, drop, eqb, false, length, map, refl, slice_get, true, ℕ, ◌%◌, ◌+◌, ◌++◌, ◌<◌, ◌∷◌, ◌≡◌, ◌≤◌, ◌⊎◌}

-- each may be asked, and has a key where it is a table

abbrev pub MayBeAsked : Line → Type 0
MayBeAsked line = IsAskable line × HasKey (Tree line)

each-both : (xs ys : List Line) → Every MayBeAsked xs → Every MayBeAsked ys → Every MayBeAsked (xs ++ ys)
each-both [] ys f g = g
each-both (x ∷ xs) ys f g = (f.0, each-both xs ys f.1 g)

each-deposit : (ks : List ℕ) → Every MayBeAsked (map deposit ks)
each-deposit [] = tt
each-deposit (k ∷ ks) = ((tt, tt), each-deposit ks)

each-where : (t : Bool) (xs : List Line) → Every MayBeAsked xs → Every MayBeAsked (cond t xs [])
each-where true xs h = h
each-where false xs h = tt

each-behind : (i : ℕ) → Every MayBeAsked (behind i)
each-behind i =
    each-both (behind_eighth i) (behind_fiftieth i) (each-where (eqb (i % 8) 0) (turn ∷ []) ((tt, tt), tt))
    (each-where (eqb (i % 50) 0) (balance ∷ turn ∷ turn ∷ []) ((tt, tt), ((tt, tt), ((tt, tt), tt))))

each-calls : (is : List ℕ) → Every MayBeAsked (flat_map call_lines is)
each-calls [] = tt
each-calls (i ∷ is) = each-both (call_lines i) (flat_map call_lines is) ((tt, tt), each-behind i) (each-calls is)

module _ (table : IsSpelledTable account_def) (program : IsSpelledProgram transfer) where
  each-opening : Every MayBeAsked opening
  unfolding opening
  each-opening = ((table, refl), ((program, tt), each-deposit (range_with_len 0 100)))

  pub each-line : (n : ℕ) → Every MayBeAsked (load_lines n)
  each-line n = each-both opening (calls n ++ closing) each-opening (each-both (calls n) closing (each-calls (range_with_len 1 n)) ((tt, tt), ((tt, tt), ((tt, tt), tt))))

  of-each : (xs : List Line) (i : ℕ) (line : Line) → Every MayBeAsked xs → Some line ≡ slice_get xs i → MayBeAsked line
  of-each [] i line h e = absurd cc
  of-each (x ∷ xs) zero line h e = subst MayBeAsked (same x line e) h.0
    where
      same : (a b : Line) → Some b ≡ Some a → a ≡ b
      same a b e = cc
  of-each (x ∷ xs) (suc i) line h e = of-each xs i line h.1 e

  pub asked-by-load : (n i : ℕ) (line : Line) → Some line ≡ slice_get (load_lines n) i → IsAskable line × HasKey (Tree line)
  asked-by-load n i line e = of-each (load_lines n) i line (each-line n) e

-- one line more

got : (xs : List Line) (i : ℕ) (x : Line) → Some x ≡ slice_get xs i → get_or xs i x ≡ x
got [] i x e = absurd cc
got (y ∷ xs) zero x e = cc
got (y ∷ xs) (suc i) x e = got xs i x e

pub not-none : (xs : List Line) (i : ℕ) → i < length xs → None ≡ slice_get xs i → ⊥
not-none [] i within e = omega (arith, within)
not-none (x ∷ xs) zero within e = cc
not-none (x ∷ xs) (suc i) within e = not-none xs i (omega (arith, within)) e

map-append : (xs ys : List Line) → map Tree (xs ++ ys) ≡ map Tree xs ++ map Tree ys
map-append [] ys = refl
map-append (x ∷ xs) ys = ap (λ l. Tree x ∷ l) (map-append xs ys)

asked-more : (n i : ℕ) (line : Line) → i < length (load_lines n) → Some line ≡ slice_get (load_lines n) i →
    map Tree (take (i + 1) (load_lines n)) ≡ map Tree (take i (load_lines n)) ++ Tree line ∷ []
asked-more n i line within e =
    ap (map Tree) (take_more (load_lines n) i line within ∙ ap (λ x. take i (load_lines n) ++ x ∷ []) (got (load_lines n) i line e))
    ∙ map-append (take i (load_lines n)) (line ∷ [])

take-drop : (xs : List Line) (i : ℕ) → xs ≡ take i xs ++ drop i xs
take-drop [] zero = refl
take-drop [] (suc i) = refl
take-drop (x ∷ xs) zero = refl
take-drop (x ∷ xs) (suc i) = ap (λ l. x ∷ l) (take-drop xs i)

-- the first lines, and those behind them
front-of-load : (n i : ℕ) → asked_by_load n ≡ map Tree (take i (load_lines n)) ++ map Tree (drop i (load_lines n))
front-of-load n i = ap (map Tree) (take-drop (load_lines n) i) ∙ map-append (take i (load_lines n)) (drop i (load_lines n))

-- so many lines are the first ones
pub front-lines : (n i : ℕ) (lines : List Asked) → lines ≡ map Tree (take i (load_lines n)) → IsFrontOf lines (asked_by_load n)
front-lines n i lines is = (map Tree (drop i (load_lines n)), front-of-load n i ∙ ap (λ ls. ls ++ map Tree (drop i (load_lines n))) (sym is))

-- so the lines of a run are that ends behind some of them
lines-behind : (s : Stop) → IsLaterStop s → (n : ℕ) (lines : List Asked) → IsFrontOf lines (asked_by_load n) → AreLoadLines (status_of s) n lines
lines-behind stop.Memory later n lines f = f
lines-behind stop.DiskFault later n lines f = f
lines-behind (stop.DeviceFull dev) later n lines f = f
lines-behind (stop.NumbersSpent boot decisions) later n lines f = f
lines-behind stop.ReadFault later n lines f = absurd later
lines-behind stop.WriteFault later n lines f = absurd later
lines-behind (stop.NotSalt dev) later n lines f = absurd later
lines-behind (stop.OtherShape kept asked) later n lines f = absurd later
lines-behind stop.ScriptTooLong later n lines f = absurd later

none-asked : (n : ℕ) (lines : List Asked) → lines ≡ [] → IsFrontOf lines (asked_by_load n)
none-asked n lines none = subst (λ ls. IsFrontOf ls (asked_by_load n)) (sym none) (asked_by_load n, refl)

early-load-lines : (s : Stop) → IsOfDevices s → (n : ℕ) (lines : List Asked) → lines ≡ [] → AreLoadLines (status_of s) n lines
early-load-lines stop.Memory of n lines none = none-asked n lines none
early-load-lines stop.DiskFault of n lines none = none-asked n lines none
early-load-lines (stop.DeviceFull dev) of n lines none = none-asked n lines none
early-load-lines (stop.NumbersSpent boot decisions) of n lines none = none-asked n lines none
early-load-lines (stop.NotSalt dev) of n lines none = none
early-load-lines (stop.OtherShape kept asked) of n lines none = none
early-load-lines stop.ReadFault of n lines none = absurd of
early-load-lines stop.WriteFault of n lines none = absurd of
early-load-lines stop.ScriptTooLong of n lines none = absurd of

loads-at : (devices : OnDevices) (flies : Option Flight) (ends : Status) (start : Start) (trace : Trace) (story : List Event) (n done : ℕ) →
    LeavesAt devices flies ends start trace story → AreLoadLines ends n (lines_asked trace) → ((ends ≡ status.Memory → ⊥) → length (lines_asked trace) ≡ done) →
    (first armed : List (ℕ × ℕ)) → Stops ends (armed_by_lines first trace) armed → EndsLoading devices start (load_run ends flies n done story) first armed
loads-at devices flies ends start trace story n done x lines count first armed stops =
    (record { trace = trace; tells = x.tells; lines = lines; count = count; leaves = x.leaves; flies = x.flies; unspent = x.fits.unspent }, x.ends, stops)

-- so many lines are as many

length-asked : (xs : List Line) (i : ℕ) → i ≤ length xs → length (map Tree (take i xs)) ≡ i
length-asked [] zero h = refl
length-asked [] (suc i) h = absurd (omega (arith, h))
length-asked (x ∷ xs) zero h = refl
length-asked (x ∷ xs) (suc i) h = let e = length-asked xs i (omega (arith, h)) in omega arith

module _ {E : Type 0} (old_stands_for : E → Option Event → State → Type 0) (start : Start) (n i : ℕ) (old : E) (story : List Event) (first armed : List (ℕ × ℕ)) (loading : IsLoading (old_stands_for old) start n i story first armed) where
  module _ (devices : OnDevices) (flies : Option Flight) (idle : (p : Point) → IsSoundPoint p → IsIdleAt (old_stands_for old) p → devices.can_reopen_at 0 p)
      (flown : (p : Point) → IsSoundPoint p → IsIdleAt (old_stands_for old) p → flies ≡ None) (leaves : (room : ℕ) (p : Point) → devices.can_reopen_at room p → devices.stands_for_kept None room p) where
    -- memory ran out between lines
    pub short-loading : (done : ℕ) → EndsLoading devices start (load_run status.Memory flies n done story) first armed
    short-loading done =
        loads-at devices flies status.Memory start loading.trace story n done (short-leaves old_stands_for devices flies old idle flown leaves start loading.trace story loading.serves)
        (front-lines n i (lines_asked loading.trace) loading.lines) (λ some. absurd (some refl)) first armed (stops-are status.Memory armed armed loading.arms (λ some. refl))

    -- all lines are done
    pub all-loaded : length (load_lines n) ≤ i → (done : ℕ) → done ≡ length (load_lines n) → EndsLoading devices start (load_run status.Done flies n done story) first armed
    all-loaded past done all =
        let whole = take_all i (load_lines n) past in
        let here : lines_asked loading.trace ≡ map Tree (load_lines n) = loading.lines ∙ ap (map Tree) whole in
        loads-at devices flies status.Done start loading.trace story n done (done-leaves old_stands_for devices flies old idle flown leaves start loading.trace story loading.serves)
        here
        (λ some. ap length (here ∙ sym (ap (map Tree) (take_all (length (load_lines n)) (load_lines n) (omega arith)))) ∙ length-asked (load_lines n) (length (load_lines n)) (omega arith) ∙ sym all)
        first armed (stops-are status.Done armed armed loading.arms (λ some. refl))

  module _ (line : Line) (within : i < length (load_lines n)) (is : Some line ≡ slice_get (load_lines n) i) where
    asked-here : (after : Trace) → lines_asked after ≡ lines_asked loading.trace ++ Tree line ∷ [] → lines_asked after ≡ map Tree (take (i + 1) (load_lines n))
    asked-here after lines = lines ∙ ap (λ ls. ls ++ Tree line ∷ []) loading.lines ∙ sym (asked-more n i line within is)

    pub line-loaded : {F : Type 0} (stands_for : F → Option Event → State → Type 0) (new : F) (told : List Event) (armed_after : List (ℕ × ℕ)) → (g : GoesByLine (stands_for new) start loading.trace (Tree line) story told) →
        StaysArmed loading.trace g.after armed armed_after → IsLoading (stands_for new) start n (i + 1) told first armed_after
    line-loaded stands_for new told armed_after g stays = record { trace = g.after; arms = stays first loading.arms; serves = g.serves; lines = asked-here g.after g.asks }

    module _ (old_devices : OnDevices) (old_flies : Option Flight) (halt : Halt) (mid told : List Event)
        (b : BreaksByLine old_devices old_flies halt start loading.trace (Tree line) story mid) (armed_after : List (ℕ × ℕ)) where
      pub loaded-behind : {F : Type 0} (stands_for : F → Option Event → State → Type 0) (new : F) → (halt ≡ Memory → ⊥) → (r : ReopensRun (stands_for new) start b.after mid told) → StaysArmed loading.trace r.after armed armed_after →
          IsLoading (stands_for new) start n (i + 1) told first armed_after
      loaded-behind stands_for new some r stays = record { trace = r.after; arms = stays first loading.arms; serves = r.serves; lines = r.lines ∙ by b.asks }
        where
          by : (lines_asked b.after ≡ lines_asked loading.trace ++ Tree line ∷ []) ⊎ ((halt ≡ Memory) × (b.after ≡ loading.trace)) → lines_asked b.after ≡ map Tree (take (i + 1) (load_lines n))
          by (inl more) = asked-here b.after more
          by (inr m) = absurd (some m.0)

      pub ends-loading : (devices : OnDevices) (flies : Option Flight) (s : Stop) → IsLaterStop s → (x : EndsResuming devices flies halt s start b.after mid told) →
          EndsArmed (status_of s) loading.trace x.after armed armed_after → EndsLoading devices start (load_run (status_of s) flies n (i + 1) told) first armed_after
      ends-loading devices flies s later x stops =
          loads-at devices flies (status_of s) start x.after told n (i + 1) x.ends (lines-behind s later n (lines_asked x.after) (subst (λ ls. IsFrontOf ls (asked_by_load n)) (sym x.lines) (by b.asks)))
          (λ some. ap length x.lines ∙ many some b.asks) first armed_after (stops first loading.arms)
        where
          many : (status_of s ≡ status.Memory → ⊥) → (lines_asked b.after ≡ lines_asked loading.trace ++ Tree line ∷ []) ⊎ ((halt ≡ Memory) × (b.after ≡ loading.trace)) → length (lines_asked b.after) ≡ i + 1
          many some (inl more) = ap length (asked-here b.after more) ∙ length-asked (load_lines n) (i + 1) (omega (arith, within))
          many some (inr m) = absurd (some (ap status_of (x.short m.0).0))

          by : (lines_asked b.after ≡ lines_asked loading.trace ++ Tree line ∷ []) ⊎ ((halt ≡ Memory) × (b.after ≡ loading.trace)) → IsFrontOf (lines_asked b.after) (asked_by_load n)
          by (inl more) = front-lines n (i + 1) (lines_asked b.after) (asked-here b.after more)
          by (inr m) = front-lines n i (lines_asked b.after) (ap lines_asked m.1 ∙ loading.lines)

-- the opening

take-none : (xs : List Line) → take 0 xs ≡ []
take-none [] = refl
take-none (x ∷ xs) = refl

pub loading-begun : {E : Type 0} (stands_for : E → Option Event → State → Type 0) (n : ℕ) (start : Start) (trace : Trace) (e : E) (story told : List Event) (a b : View) → lines_asked trace ≡ [] →
    CountsOpening a b None story told → ReopensRun (stands_for e) start trace story told → (first : List (ℕ × ℕ)) → armed_by_lines first trace ≡ Some a.armed → IsLoading (stands_for e) start n 0 told first b.armed
loading-begun stands_for n start trace e story told a b unasked counts r first is =
    record { trace = r.after; arms = opening-stays a b story told counts trace r.after r.grows r.along.armed first is; serves = r.serves; lines = r.lines ∙ unasked ∙ sym (ap (map Tree) (take-none (load_lines n))) }

pub not-begun : (devices : OnDevices) (flies : Option Flight) (n : ℕ) (start : Start) (trace : Trace) (story told : List Event) (a b : View) (e : Stop) → IsLaterStop e →
    lines_asked trace ≡ [] → CountsOpening a b (answer_of (status_of e)) story told → EndsOpening devices flies e start trace story told →
    (first : List (ℕ × ℕ)) → armed_by_lines first trace ≡ Some a.armed → EndsLoading devices start (load_run (status_of e) flies n 0 told) first b.armed
not-begun devices flies n start trace story told a b e later unasked counts x first is =
    let none = x.lines ∙ unasked in
    loads-at devices flies (status_of e) start x.after told n 0 x.ends (early-load-lines e (of-later e later) n (lines_asked x.after) none) (λ some. ap length none)
    first b.armed (opening-ends a b (status_of e) story told counts trace x.after x.grows x.along.armed first is)

-- nothing was found
pub unfound-loaded : (reason : OpenErr) (n : ℕ) (story : List Event) → IsUnfound story → (story ≡ []) ⊎ IsLater reason → (start : Start) → IsPlayedLoad start (load_run (status_of (stop_opening reason)) None n 0 story)
unfound-loaded reason n story u empty start =
    let e = stop_opening reason in
    let asked = often-asked start u.0 in
    record {
      trace = fallen_often start u.0;
      tells = often-tells start story u;
      lines = early-load-lines e (of-reason reason) n (lines_asked (fallen_often start u.0)) asked;
      count = λ some. ap length asked;
      leaves = unfound-leaves reason story u empty e (inl refl) start;
      flies = unfound-flies reason story u empty e (inl refl) start;
      unspent = often-unspent start u.0;
    }
