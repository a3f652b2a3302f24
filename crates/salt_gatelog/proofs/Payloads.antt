-- What is put behind the front of a frame.
use Rattle.salt_gatelog.specs.Log.{front, payload_in}
use Rattle.std.proofs.Common.{Err, List, Ok, Result, ap, arith, length, length-drop, ℕ, ◌++◌, ◌<◌, ◌≡◌, ◌≤◌, ◌∙◌}
use Rattle.std.specs.Prelude.{IfOk}

-- it is the frame's payload
pub payload_put : {A E : Type 0} (r : Result A E) (items : A → List ℕ) (frame payload : List ℕ) → frame ≡ front
    → IfOk r (λ made. items made ≡ frame ++ payload) → IfOk r (λ made. payload_in (items made) ≡ payload)
payload_put (Ok made) items frame payload is h = ap payload_in (h ∙ ap (λ (l : List ℕ). l ++ payload) is)
payload_put (Err e) items frame payload is h = tt

-- what has a payload has a front
pub front_stays : {A E : Type 0} (r : Result A E) (items : A → List ℕ) (payload : List ℕ) → 0 < length payload
    → IfOk r (λ made. payload_in (items made) ≡ payload) → IfOk r (λ made. 8 ≤ length (items made))
front_stays (Ok made) items payload some h = omega (arith, some, length-drop 8 (items made), ap length h)
front_stays (Err e) items payload some h = tt
