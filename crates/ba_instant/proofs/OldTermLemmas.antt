-- After a quiet growth just that is shown and refuted of the terms that were there which was before.
use Rattle.std.proofs.Common.{◌≡◌, List, subst}
use Rattle.std.specs.Prelude.{Some}
use Rattle.ba_model.specs.declared.query.Atom.{Atom}
use Rattle.ba_model.specs.declared.query.Op.{Op}
use Rattle.ba_model.specs.declared.query.Op.TheVariants.{Eq, Ne, Lt, Le, IsNull, NotNull}
use Rattle.ba_model.specs.declared.query.Operand.{Operand}
use Rattle.ba_facts.specs.Known.{Known, ShownNotNull}
use Rattle.ba_facts.specs.Matches.{IsLive, IsLiveOf, IsShown, Under, term_of}
use Rattle.ba_facts.specs.Shown.{NeitherNull, RefutesOf, ShowsOf, TheSame}
use Rattle.ba_facts.specs.declared.term.Term.{Term}
use Rattle.ba_instant.proofs.CarryLemmas.{Carries, neither_null, not_null, refutes, shows, the_same}

-- what holds of an atom's terms holds otherwise
pub under : {P Q : Op → Term → Term → Type 0} (rows : List (List Term)) (atom : Atom) →
    ((a b : Term) → term_of rows atom.left ≡ Some a → term_of rows atom.right ≡ Some b → P atom.op a b → Q atom.op a b) → Under P rows atom → Under Q rows atom
under rows atom f h = record { left = h.left; right = h.right; left_is = h.left_is; right_is = h.right_is; holds = f h.left h.right h.left_is h.right_is h.holds }

module _ (k l : Known) (Old : Term → Type 0) (stands : Term → Term) (itself : (t : Term) → Old t → stands t ≡ t) (on : Carries k l (λ t. t)) (back : Carries l k stands) where
  -- what holds of the terms that stand for them holds of old terms, which stand for themselves
  pub of_two : (R : Term → Term → Type 0) (a b : Term) → Old a → Old b → R (stands a) (stands b) → R a b
  of_two R a b first second h = subst (λ t. R t b) (itself a first) (subst (R (stands a)) (itself b second) h)

  pub shows_on : (op : Op) (a b : Term) → ShowsOf k op a b → ShowsOf l op a b
  shows_on op a b h = shows k l (λ t. t) on op a b h

  pub shows_back : (op : Op) (a b : Term) → Old a → Old b → ShowsOf l op a b → ShowsOf k op a b
  shows_back op a b first second h = of_two (ShowsOf k op) a b first second (shows l k stands back op a b h)

  pub refutes_on : (op : Op) (a b : Term) → RefutesOf k op a b → RefutesOf l op a b
  refutes_on op a b h = refutes k l (λ t. t) on op a b h

  pub refutes_back : (op : Op) (a b : Term) → Old a → Old b → RefutesOf l op a b → RefutesOf k op a b
  refutes_back op a b first second h = of_two (RefutesOf k op) a b first second (refutes l k stands back op a b h)

  pub same_on : (a b : Term) → TheSame k a b → TheSame l a b
  same_on a b h = the_same k l (λ t. t) on h

  pub same_back : (a b : Term) → Old a → Old b → TheSame l a b → TheSame k a b
  same_back a b first second h = of_two (TheSame k) a b first second (the_same l k stands back h)

  pub neither_back : (a b : Term) → Old a → Old b → NeitherNull l a b → NeitherNull k a b
  neither_back a b first second h = of_two (NeitherNull k) a b first second (neither_null l k stands back h)

  pub not_null_back : (a : Term) → Old a → ShownNotNull l a → ShownNotNull k a
  not_null_back a there h = subst (ShownNotNull k) (itself a there) (not_null l k stands back h)

  pub live_on : (op : Op) (a b : Term) → Old a → Old b → IsLiveOf k op a b → IsLiveOf l op a b
  live_on Eq a b first second h = shows_on Eq a b h
  live_on Ne a b first second h = λ no. h (refutes_back Ne a b first second no)
  live_on Lt a b first second h = λ no. h (refutes_back Lt a b first second no)
  live_on Le a b first second h = λ no. h (refutes_back Le a b first second no)
  live_on IsNull a b first second h = λ no. h (refutes_back IsNull a b first second no)
  live_on NotNull a b first second h = λ no. h (refutes_back NotNull a b first second no)

  pub live_back : (op : Op) (a b : Term) → Old a → Old b → IsLiveOf l op a b → IsLiveOf k op a b
  live_back Eq a b first second h = shows_back Eq a b first second h
  live_back Ne a b first second h = λ no. h (refutes_on Ne a b no)
  live_back Lt a b first second h = λ no. h (refutes_on Lt a b no)
  live_back Le a b first second h = λ no. h (refutes_on Le a b no)
  live_back IsNull a b first second h = λ no. h (refutes_on IsNull a b no)
  live_back NotNull a b first second h = λ no. h (refutes_on NotNull a b no)

  -- ---- atoms over rows of terms

  module _ (rows : List (List Term)) where
    pub shown_still : (atom : Atom) → IsShown k rows atom → IsShown l rows atom
    shown_still atom h = under rows atom (λ a b _ _. shows_on atom.op a b) h

    module _ (there : (x : Operand) (t : Term) → term_of rows x ≡ Some t → Old t) where
      pub shown_before : (atom : Atom) → IsShown l rows atom → IsShown k rows atom
      shown_before atom h = under rows atom (λ a b left right. shows_back atom.op a b (there atom.left a left) (there atom.right b right)) h

      pub live_still : (atom : Atom) → IsLive k rows atom → IsLive l rows atom
      live_still atom h = under rows atom (λ a b left right. live_on atom.op a b (there atom.left a left) (there atom.right b right)) h

      pub live_before : (atom : Atom) → IsLive l rows atom → IsLive k rows atom
      live_before atom h = under rows atom (λ a b left right. live_back atom.op a b (there atom.left a left) (there atom.right b right)) h
