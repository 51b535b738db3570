-- How values are fixed one after another.
use Rattle.std.proofs.Common.{◌≡◌, Bool, true, false, ℕ, zero, suc, List, [], ◌∷◌, length, map, refl, sym, ap, ap₂, subst}
use Rattle.std.proofs.lemmas.Result.{IfOk-weaker}
use Rattle.std.specs.Prelude.{◌≢◌, IfOk, IsTrue, Option, Some, None, Result, slice_get, slice_set}
use Rattle.ba_model.specs.declared.value.Value.{Value}
use Rattle.ba_match.specs.Bindings.{Extends, IsFixedTo, Narrows}

module _ {P Q R : List Value → Type 0} where
  -- first P, then Q
  pub narrows_both : (old mid new : List (Option Value)) (told : Bool) → ((v : List Value) → P v → Q v → R v) → ((v : List Value) → R v → P v × Q v) →
      Narrows P old mid true → Narrows Q mid new told → Narrows R old new told
  narrows_both old mid new told join split first second =
      record {
        sound = λ v t h.
            let b = second.sound v t h in
            let a = first.sound v refl b.0 in
            (a.0, join v a.1 b.1);
        complete = λ v h r.
            let two = split v r in
            let a = first.complete v h two.0 in
            second.complete v a.1 two.1;
      }

module _ {P R : List Value → Type 0} where
  -- already P can't be
  pub narrows_stop : (old new : List (Option Value)) → ((v : List Value) → R v → P v) → Narrows P old new false → Narrows R old new false
  narrows_stop old new into first =
      record {
        sound = λ v t h. absurd (not_false t);
        complete = λ v h r. absurd (not_false (first.complete v h (into v r)).0);
      }
    where
      not_false : IsTrue false → ⊥
      not_false t = cc

module _ {R : List Value → Type 0} where
  pub narrows_none : (old new : List (Option Value)) → ((v : List Value) → R v → ⊥) → Narrows R old new false
  narrows_none old new never = record { sound = λ v t h. absurd (not_false t); complete = λ v h r. absurd (never v r) }
    where
      not_false : IsTrue false → ⊥
      not_false t = cc

  -- nothing is fixed by it
  pub narrows_decided : (bound : List (Option Value)) (told : Bool) → ((v : List Value) → Extends bound v → IsTrue told → R v) →
      ((v : List Value) → Extends bound v → R v → IsTrue told) → Narrows R bound bound told
  narrows_decided bound told into out = record { sound = λ v t h. (h, into v h t); complete = λ v h r. (out v h r, h) }

-- ---- lists, place by place
module _ {X Y : Type 0} (f : List Value → X → Y) where
  pub list_nil : (bound : List (Option Value)) (ps : List X) (ys : List Y) → ps ≡ [] → ys ≡ [] → Narrows (λ v. map (f v) ps ≡ ys) bound bound true
  list_nil bound ps ys ep ey =
      narrows_decided bound true (λ v h t. subst (λ qs. map (f v) qs ≡ ys) (sym ep) (sym ey)) (λ v h r. refl)

  module _ (old : List (Option Value)) (p : X) (y : Y) (ps qs : List X) (ys zs : List Y) (ep : ps ≡ p ∷ qs) (ey : ys ≡ y ∷ zs) where
    join : (v : List Value) → f v p ≡ y → map (f v) qs ≡ zs → map (f v) ps ≡ ys
    join v a b = subst (λ rs. map (f v) rs ≡ ys) (sym ep) (subst (λ rs. f v p ∷ map (f v) qs ≡ rs) (sym ey) (ap₂ (λ r rs. r ∷ rs) a b))

    split : (v : List Value) → map (f v) ps ≡ ys → (f v p ≡ y) × (map (f v) qs ≡ zs)
    split v e =
        let whole : f v p ∷ map (f v) qs ≡ y ∷ zs = subst (λ rs. map (f v) rs ≡ y ∷ zs) ep (subst (λ rs. map (f v) ps ≡ rs) ey e) in
        (let a : f v p ≡ y = cc in a, let b : map (f v) qs ≡ zs = cc in b)

    pub list_cons : (mid new : List (Option Value)) (told : Bool) → Narrows (λ v. f v p ≡ y) old mid true → Narrows (λ v. map (f v) qs ≡ zs) mid new told →
        Narrows (λ v. map (f v) ps ≡ ys) old new told
    list_cons mid new told = narrows_both old mid new told join split

    pub list_stop : (new : List (Option Value)) → Narrows (λ v. f v p ≡ y) old new false → Narrows (λ v. map (f v) ps ≡ ys) old new false
    list_stop new = narrows_stop old new (λ v r. (split v r).0)

    -- a further place, where the first was told
    pub list_step : {E : Type 0} (result : Result Bool E) (mid new : List (Option Value)) (t : Bool) → t ≡ true → Narrows (λ v. f v p ≡ y) old mid t →
        IfOk result (Narrows (λ v. map (f v) qs ≡ zs) mid new) → IfOk result (Narrows (λ v. map (f v) ps ≡ ys) old new)
    list_step result mid new t e first h =
        IfOk-weaker result (Narrows (λ v. map (f v) qs ≡ zs) mid new) (Narrows (λ v. map (f v) ps ≡ ys) old new)
        (λ told rest. list_cons mid new told (subst (Narrows (λ v. f v p ≡ y) old mid) e first) rest) h

  -- the lists differ in length
  pub list_short : (old new : List (Option Value)) (ps : List X) (ys : List Y) → (length ps ≢ length ys) → Narrows (λ v. map (f v) ps ≡ ys) old new false
  list_short old new ps ys differ = narrows_none old new (λ v e. differ (long v ps ys e))
    where
      long : (v : List Value) (ps : List X) (ys : List Y) → map (f v) ps ≡ ys → length ps ≡ length ys
      long v [] [] e = refl
      long v [] (y ∷ ys) e = absurd (cc)
      long v (p ∷ ps) [] e = absurd (cc)
      long v (p ∷ ps) (y ∷ ys) e = let rest : map (f v) ps ≡ ys = cc in ap suc (long v ps ys rest)

-- ---- one variable

pub fixed_at : (bound : List (Option Value)) (values : List Value) (n : ℕ) (o : Option Value) → Extends bound values → slice_get bound n ≡ Some o →
    (v : Value) × (slice_get values n ≡ Some v) × IsFixedTo o v
fixed_at [] values n o h e = absurd (cc)
fixed_at (b ∷ bound) [] n o h e = absurd h
fixed_at (b ∷ bound) (v ∷ values) zero o h e = (v, refl, subst (λ q. IsFixedTo q v) (let same : b ≡ o = cc in same) h.0)
fixed_at (b ∷ bound) (v ∷ values) (suc n) o h e = fixed_at bound values n o h.1 e

pub gone_at : (bound : List (Option Value)) (values : List Value) (n : ℕ) → Extends bound values → slice_get bound n ≡ None → slice_get values n ≡ None
gone_at [] [] n h e = refl
gone_at [] (v ∷ values) n h e = absurd h
gone_at (b ∷ bound) [] n h e = absurd h
gone_at (b ∷ bound) (v ∷ values) zero h e = absurd (cc)
gone_at (b ∷ bound) (v ∷ values) (suc n) h e = gone_at bound values n h.1 e

-- a value where none was fixed
set_extends : (bound : List (Option Value)) (values : List Value) (n : ℕ) (v : Value) → slice_get bound n ≡ Some None → Extends (slice_set bound n (Some v)) values →
    Extends bound values × (slice_get values n ≡ Some v)
set_extends [] values n v e h = absurd (cc)
set_extends (b ∷ bound) [] zero v e h = absurd h
set_extends (b ∷ bound) [] (suc n) v e h = absurd h
set_extends (b ∷ bound) (w ∷ values) zero v e h = ((subst (λ q. IsFixedTo q w) (let same : None ≡ b = cc in same) tt, h.1), ap Some (sym h.0))
set_extends (b ∷ bound) (w ∷ values) (suc n) v e h = let rest = set_extends bound values n v e h.1 in ((h.0, rest.0), rest.1)

extends_set : (bound : List (Option Value)) (values : List Value) (n : ℕ) (v : Value) → Extends bound values → slice_get values n ≡ Some v →
    Extends (slice_set bound n (Some v)) values
extends_set [] [] n v h e = absurd (cc)
extends_set [] (w ∷ values) n v h e = absurd h
extends_set (b ∷ bound) [] n v h e = absurd h
extends_set (b ∷ bound) (w ∷ values) zero v h e = (let same : v ≡ w = cc in same, h.1)
extends_set (b ∷ bound) (w ∷ values) (suc n) v h e = (h.0, extends_set bound values n v h.1 e)

module _ (bound : List (Option Value)) (n : ℕ) (v : Value) where
  abbrev pub IsAt : List Value → Type 0
  IsAt values = slice_get values n ≡ Some v

  pub bind_past : (new : List (Option Value)) → slice_get bound n ≡ None → Narrows IsAt bound new false
  bind_past new e =
      record { sound = λ values t h. absurd (not_false t); complete = λ values h at. absurd (not_both values (gone_at bound values n h e) at) }
    where
      not_false : IsTrue false → ⊥
      not_false t = cc

      not_both : (values : List Value) → slice_get values n ≡ None → slice_get values n ≡ Some v → ⊥
      not_both values a b = cc

  pub bind_fixed : (w : Value) (told : Bool) → slice_get bound n ≡ Some (Some w) → (IsTrue told → w ≡ v) → (w ≡ v → IsTrue told) → Narrows IsAt bound bound told
  bind_fixed w told e into out =
      narrows_decided bound told
      (λ values h t. let at = fixed_at bound values n (Some w) h e in
      let same : at.0 ≡ v = (let first : w ≡ at.0 = at.2 in let second : w ≡ v = into t in cc) in
      let got : slice_get values n ≡ Some at.0 = at.1 in cc)
      (λ values h r. let at = fixed_at bound values n (Some w) h e in out (let got : slice_get values n ≡ Some at.0 = at.1 in let first : w ≡ at.0 = at.2 in cc))

  pub bind_new : slice_get bound n ≡ Some None → Narrows IsAt bound (slice_set bound n (Some v)) true
  bind_new e =
      record {
        sound = λ values t h. set_extends bound values n v e h;
        complete = λ values h at. (refl, extends_set bound values n v h at);
      }

  pub bind_free : (w : Value) (new : List (Option Value)) → slice_get bound n ≡ Some None → w ≡ v → new ≡ slice_set bound n (Some w) → Narrows IsAt bound new true
  bind_free w new free same is =
      subst (λ b. Narrows IsAt bound b true) (sym is) (subst (λ x. Narrows IsAt bound (slice_set bound n (Some x)) true) (sym same) (bind_new free))
