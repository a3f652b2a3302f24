-- Texts that are printed one after another.
use Rattle.salt_ast.specs.Prints.{Continues, Prints}
use Rattle.salt_ast.specs.declared.printer.Printer.{Printer}
use Rattle.salt_io.specs.Collects.{Collects, Moves}
use Rattle.salt_io.specs.Sends.{Sends}
use Rattle.salt_io.specs.Streams.{Gains, GainsShort}
use Rattle.salt_io.specs.declared.streams.IoFailed.{IoFailed}
use Rattle.std.proofs.Common.{List, [], ◌++◌, ℕ, ap, append_assoc, append-nil, arith, length-append, refl, subst, ◌∙◌, sym}
use Rattle.std.specs.Prelude.{Err, None, Ok, OnOk, Option, Result, Some, option_map, ◌≡◌}

Gains-nil : (h : Option (List ℕ)) → Gains h [] h
Gains-nil None = refl
Gains-nil (Some held) = ap Some (sym (append-nil held))

Gains-append : (a b : List ℕ) (h i j : Option (List ℕ)) → Gains h a i → Gains i b j → Gains h (a ++ b) j
Gains-append a b None i j p q = q ∙ ap (option_map (λ held. held ++ b)) p
Gains-append a b (Some held) i j p q = q ∙ ap (option_map (λ l. l ++ b)) p ∙ ap Some (append_assoc held a b)

-- what is put behind bytes that are a part and others is the part, and the others with it
behind : (w a b p v : List ℕ) → w ++ a ≡ p ++ v → w ++ (a ++ b) ≡ p ++ (v ++ b)
behind w a b p v e = sym (append_assoc w a b) ∙ ap (λ x. x ++ b) e ∙ append_assoc p v b

Moves-append : (a b w v u : List ℕ) (h i j : Option (List ℕ)) → Moves h w a i v → Moves i v b j u → Moves h w (a ++ b) j u
Moves-append a b w v u h i j first second = record {
  part = first.part ++ second.part;
  gained = Gains-append first.part second.part h i j first.gained second.gained;
  all = behind w a b first.part v first.all ∙ ap (λ x. first.part ++ x) second.all ∙ sym (append_assoc first.part second.part u);
}

-- nothing was collected
Collects-nil : {K : Type 0} (held : K → Option (List ℕ)) (faults : K → ℕ) (s : K) (w : List ℕ) → Collects held faults s w s w (Ok tt) []
Collects-nil held faults s w = record {
  ok = record { part = []; gained = Gains-nil (held s); all = append-nil w };
  same = refl;
  err = tt;
  failed = tt;
  later = omega arith;
}

-- a text, and then another as far as it went
Collects-append : {K : Type 0} {d : Unit {0}} (held : K → Option (List ℕ)) (faults : K → ℕ) (a b w v u : List ℕ) (r : Result (Unit {0}) IoFailed) (s t x : K)
    → Collects held faults s w t v (Ok d) a → Collects held faults t v x u r b → Collects held faults s w x u r (a ++ b)
Collects-append held faults a b w v u (Ok done) s t x first second = record {
  ok = Moves-append a b w v u (held s) (held t) (held x) first.ok second.ok;
  same = second.same ∙ first.same;
  err = tt;
  failed = tt;
  later = omega (arith, first.later, second.later);
}
Collects-append held faults a b w v u (Err e) s t x first second = record {
  ok = tt;
  same = tt;
  err = record {
    part = first.ok.part ++ second.err.part;
    missing = second.err.missing;
    whole = behind w a b first.ok.part v first.ok.all ∙ ap (λ l. first.ok.part ++ l) second.err.whole
        ∙ sym (append_assoc first.ok.part second.err.part second.err.missing);
    some = second.err.some;
    gained = Gains-append first.ok.part second.err.part (held s) (held t) (held x) first.ok.gained second.err.gained;
  };
  failed = rw first.same at second.failed;
  later = omega (arith, first.later, second.later);
}

-- a text that was cut short is part of a longer one
Collects-cut : {K : Type 0} (held : K → Option (List ℕ)) (faults : K → ℕ) (a b w v u : List ℕ) (e : IoFailed) (s t : K)
    → Collects held faults s w t v (Err e) a → Collects held faults s w t u (Err e) (a ++ b)
Collects-cut held faults a b w v u e s t sent = record {
  ok = tt;
  same = tt;
  err = record {
    part = sent.err.part;
    missing = sent.err.missing ++ b;
    whole = behind w a b sent.err.part sent.err.missing sent.err.whole;
    some = omega (arith, sent.err.some, length-append sent.err.missing b);
    gained = sent.err.gained;
  };
  failed = sent.failed;
  later = sent.later;
}

Continues-nil : {K : Type 0} (held : K → Option (List ℕ)) (faults : K → ℕ) (o : Result (Unit {0}) IoFailed) (s : K) (w : List ℕ) →
    Continues held faults o s w s w o []
Continues-nil held faults (Ok tt) s w = Collects-nil held faults s w
Continues-nil held faults (Err e) s w = (refl, refl)

Continues-append : {K : Type 0} (held : K → Option (List ℕ)) (faults : K → ℕ) (a b w v u : List ℕ) (o p q : Result (Unit {0}) IoFailed) (s t x : K)
    → Continues held faults o s w t v p a → Continues held faults p t v x u q b → Continues held faults o s w x u q (a ++ b)
Continues-append held faults a b w v u (Ok c) (Ok d) q s t x first second = Collects-append held faults a b w v u q s t x first second
Continues-append held faults a b w v u (Ok c) (Err e) q s t x first second =
    subst (λ r. Collects held faults s w x u r (a ++ b)) (sym second.0)
    (subst (λ y. Collects held faults s w y u (Err e) (a ++ b)) (sym second.1) (Collects-cut held faults a b w v u e s t first))
Continues-append held faults a b w v u (Err e) (Ok d) q s t x first second = cc
Continues-append held faults a b w v u (Err e) (Err d) q s t x first second = (second.0 ∙ first.0, second.1 ∙ first.1)

-- nothing was printed
pub Prints-nil : {K : Type 0} (held : K → Option (List ℕ)) (faults : K → ℕ) (s : Printer K) → Prints held faults s s []
Prints-nil held faults s = record { same_sink = refl; printed = Continues-nil held faults s.outcome s.sink.now s.waiting }

-- one text is printed, and then another
infixr 40 ◌⨾◌
pub ◌⨾◌ : {K : Type 0} {held : K → Option (List ℕ)} {faults : K → ℕ} {a b : List ℕ} {s t v : Printer K}
    → Prints held faults s t a → Prints held faults t v b → Prints held faults s v (a ++ b)
◌⨾◌ {held = held} {faults = faults} {a = a} {b = b} {s = s} {t = t} {v = v} first second = record {
  same_sink = second.same_sink ∙ first.same_sink;
  printed = Continues-append held faults a b s.waiting t.waiting v.waiting s.outcome t.outcome v.outcome s.sink.now t.sink.now v.sink.now
      first.printed second.printed;
}

-- what holds anyway holds where a call succeeded
pub on_ok : (r : Result (Unit {0}) IoFailed) (P : Type 0) → P → OnOk r P
on_ok (Ok d) P h = h
on_ok (Err e) P h = tt

-- nothing waited, a text was printed, and nothing waits: the text was sent
pub all_sent : {K : Type 0} {held : K → Option (List ℕ)} {faults : K → ℕ} {text printed v w : List ℕ} {s t : K} (r : Result (Unit {0}) IoFailed) →
    v ≡ [] → OnOk r (w ≡ []) → printed ≡ text → Collects held faults s v t w r printed → Sends held faults s t r text
all_sent {held = held} {text = text} {printed = printed} {s = s} {t = t} (Ok d) none left is c = record {
  ok = subst (λ x. Gains (held s) x (held t)) (sym whole) c.ok.gained;
  same = c.same;
  err = tt;
  failed = tt;
  later = c.later;
}
  where
    whole : text ≡ c.ok.part
    whole = sym is ∙ ap (λ x. x ++ printed) (sym none) ∙ c.ok.all ∙ ap (λ x. c.ok.part ++ x) left ∙ append-nil c.ok.part
all_sent {held = held} {printed = printed} {s = s} {t = t} (Err e) none left is c = record {
  ok = tt;
  same = tt;
  err = subst (λ x. GainsShort (held s) x (held t)) (ap (λ x. x ++ printed) none ∙ is) c.err;
  failed = c.failed;
  later = c.later;
}
