-- What is known of terms is known where more is assumed.
use Rattle.std.proofs.Common.{◌≡◌, ℤ, pos, ◌⊎◌, inl, inr, Contains, ap, ◌∙◌}
use Rattle.std.specs.Prelude.{Some, slice_get}
use Rattle.ba_model.specs.declared.query.Op.{Op}
use Rattle.ba_model.specs.declared.query.Op.TheVariants as ops
use Rattle.ba_facts.proofs.ChainLemmas.{from_class, one_rise, onward, then}
use Rattle.ba_facts.proofs.ClassMoves.{equal_moves, not_null_moves, same_moves}
use Rattle.ba_facts.specs.Known.{Chain, DifferentLiterals, Equated, Known, Learned, NotNullTerm, OneClass, Rise, ShownGap, ShownNotNull}
use Rattle.ba_facts.specs.Shown.{Absurd, AreTheTwo, EitherNull, IsAtMost, IsEqual, IsLess, IsUnequal, NeitherNull, RecordedApart, RefutesOf, ShowsOf, TheSame}
use Rattle.ba_facts.specs.declared.term.Lesson.TheVariants.{Same}
use Rattle.ba_facts.specs.declared.term.Term.{Term}
use Rattle.ba_facts.specs.declared.term.Term.TheVariants as terms

-- the comparison was learned of terms of the two classes
pub record LearnedOf (k : Known) (op : Op) (a b : Term) : Type 0 where
  pub left : Term
  pub right : Term
  pub left_in : OneClass k a left
  pub right_in : OneClass k b right
  pub learned : Learned k op left right

-- l has k's unknowns and says all that k learned, of terms of the same classes
pub record Follows (k l : Known) : Type 0 where
  pub unknowns : l.unknowns ≡ k.unknowns
  pub same : (a b : Term) → Contains k.learned (Same a b) → OneClass l a b
  pub learned : (op : Op) (a b : Term) → Learned k op a b → LearnedOf l op a b

-- ---- what follows

module _ (k l : Known) (f : Follows k l) where
  equated_follows : (a b : Term) → Equated k a b → OneClass l a b
  equated_follows a b (Equated.same h) = f.same a b h
  equated_follows a b (Equated.equal h) =
      let at = f.learned ops.Eq a b h in
      OneClass.joined at.left_in (OneClass.joined (OneClass.equated (Equated.equal at.learned)) (OneClass.turned at.right_in))
  equated_follows a b (Equated.null {b = c} h) =
      let at = f.learned ops.IsNull a c h in OneClass.joined at.left_in (OneClass.equated (Equated.null at.learned))

  pub class_follows : {a b : Term} → OneClass k a b → OneClass l a b
  class_follows {a} {b} (OneClass.equated h) = equated_follows a b h
  class_follows OneClass.itself = OneClass.itself
  class_follows (OneClass.turned h) = OneClass.turned (class_follows h)
  class_follows (OneClass.joined h i) = OneClass.joined (class_follows h) (class_follows i)

  not_null_follows : {a : Term} → NotNullTerm k a → ShownNotNull l a
  not_null_follows (NotNullTerm.column {n} {sort} there never) =
      let there : slice_get l.unknowns n ≡ Some sort = ap (λ (us : _). slice_get us n) f.unknowns ∙ there in
      record { other = terms.Unknown n; class = OneClass.itself; not_null = NotNullTerm.column there never }
  not_null_follows (NotNullTerm.literal {v} h) = record { other = terms.Val v; class = OneClass.itself; not_null = NotNullTerm.literal h }
  not_null_follows (NotNullTerm.param {n}) = record { other = terms.Param n; class = OneClass.itself; not_null = NotNullTerm.param }
  not_null_follows (NotNullTerm.var {n}) = record { other = terms.Var n; class = OneClass.itself; not_null = NotNullTerm.var }
  not_null_follows (NotNullTerm.left {op} {a} {b} h c) =
      let at = f.learned op a b h in record { other = at.left; class = at.left_in; not_null = NotNullTerm.left at.learned c }
  not_null_follows (NotNullTerm.right {op} {a} {b} h c) =
      let at = f.learned op a b h in record { other = at.right; class = at.right_in; not_null = NotNullTerm.right at.learned c }
  not_null_follows (NotNullTerm.recorded {a} {b} h) =
      let at = f.learned ops.NotNull a b h in record { other = at.left; class = at.left_in; not_null = NotNullTerm.recorded at.learned }

  pub shown_not_null_follows : {a : Term} → ShownNotNull k a → ShownNotNull l a
  shown_not_null_follows h = not_null_moves (OneClass.turned (class_follows h.class)) (not_null_follows h.not_null)

  rise_follows : {a b : Term} {n : ℤ} → Rise k a n b → Chain l a n b
  rise_follows (Rise.within h) = one_rise (Rise.within (class_follows h))
  rise_follows (Rise.at_most {a} {b} h) =
      let at = f.learned ops.Le a b h in from_class at.left_in (onward (one_rise (Rise.at_most at.learned)) (OneClass.turned at.right_in))
  rise_follows (Rise.less {a} {b} h) =
      let at = f.learned ops.Lt a b h in from_class at.left_in (onward (one_rise (Rise.less at.learned)) (OneClass.turned at.right_in))
  rise_follows Rise.number = one_rise Rise.number

  chain_follows : {a b : Term} {n : ℤ} → Chain k a n b → Chain l a n b
  chain_follows Chain.none = Chain.none
  chain_follows (Chain.first r c) = then (rise_follows r) (chain_follows c)

  gap_follows : (a b : Term) (n : ℤ) → ShownGap k a n b → ShownGap l a n b
  gap_follows a b n h = record { sum = h.sum; enough = h.enough; chain = chain_follows h.chain }

  pub same_follows : (a b : Term) → TheSame k a b → TheSame l a b
  same_follows a b (inl h) = inl (class_follows h)
  same_follows a b (inr h) = inr (gap_follows a b (pos 0) h.0, gap_follows b a (pos 0) h.1)

  pub neither_follows : {a b : Term} → NeitherNull k a b → NeitherNull l a b
  neither_follows h = record { left = shown_not_null_follows h.left; right = shown_not_null_follows h.right }

  pub equal_follows : {a b : Term} → IsEqual k a b → IsEqual l a b
  equal_follows {a} {b} h = record { not_null = neither_follows h.not_null; same = same_follows a b h.same }

  most_follows : {a b : Term} → IsAtMost k a b → IsAtMost l a b
  most_follows {a} {b} h = record { not_null = neither_follows h.not_null; gap = gap_follows a b (pos 0) h.gap }

  less_follows : {a b : Term} → IsLess k a b → IsLess l a b
  less_follows {a} {b} h = record { not_null = neither_follows h.not_null; gap = gap_follows a b (pos 1) h.gap }

  literals_follow : {a b : Term} → DifferentLiterals k a b → DifferentLiterals l a b
  literals_follow h = record { left = h.left; right = h.right; left_in = class_follows h.left_in; right_in = class_follows h.right_in; differ = h.differ }

  two_follow : (a b x y u v : Term) → OneClass l x u → OneClass l y v → AreTheTwo k x y a b → AreTheTwo l u v a b
  two_follow a b x y u v at to (inl h) =
      inl (same_moves l a x a u OneClass.itself at (same_follows a x h.0), same_moves l b y b v OneClass.itself to (same_follows b y h.1))
  two_follow a b x y u v at to (inr h) =
      inr (same_moves l a y a v OneClass.itself to (same_follows a y h.0), same_moves l b x b u OneClass.itself at (same_follows b x h.1))

  apart_follows : (a b : Term) → RecordedApart k a b → RecordedApart l a b
  apart_follows a b h =
      let at = f.learned ops.Ne h.x h.y h.learned in
      record { x = at.left; y = at.right; learned = at.learned; sides = two_follow a b h.x h.y at.left at.right at.left_in at.right_in h.sides }

  either_follows : (a b : Term) → EitherNull k a b → EitherNull l a b
  either_follows a b (inl h) = inl (class_follows h)
  either_follows a b (inr h) = inr (class_follows h)

  unequal_follows : {a b : Term} → IsUnequal k a b → IsUnequal l a b
  unequal_follows (IsUnequal.literals h) = IsUnequal.literals (literals_follow h)
  unequal_follows (IsUnequal.less h) = IsUnequal.less (less_follows h)
  unequal_follows (IsUnequal.greater h) = IsUnequal.greater (less_follows h)
  unequal_follows {a} {b} (IsUnequal.apart h) = IsUnequal.apart (apart_follows a b h)
  unequal_follows {a} {b} (IsUnequal.null h) = IsUnequal.null (either_follows a b h)

  -- what is shown, refuted or absurd stays so
  pub shown_follows : (op : Op) (a b : Term) → ShowsOf k op a b → ShowsOf l op a b
  shown_follows ops.Eq a b h = equal_follows h
  shown_follows ops.Ne a b h = (neither_follows h.0, unequal_follows h.1)
  shown_follows ops.Lt a b h = less_follows h
  shown_follows ops.Le a b h = most_follows h
  shown_follows ops.IsNull a b h = class_follows h
  shown_follows ops.NotNull a b h = shown_not_null_follows h

  refuted_or_null : (P Q : Type 0) (a b : Term) → (P → Q) → P ⊎ EitherNull k a b → Q ⊎ EitherNull l a b
  refuted_or_null P Q a b onto (inl h) = inl (onto h)
  refuted_or_null P Q a b onto (inr h) = inr (either_follows a b h)

  pub refuted_follows : (op : Op) (a b : Term) → RefutesOf k op a b → RefutesOf l op a b
  refuted_follows ops.Eq a b h = unequal_follows h
  refuted_follows ops.Ne a b h = refuted_or_null (IsEqual k a b) (IsEqual l a b) a b equal_follows h
  refuted_follows ops.Lt a b h = refuted_or_null (IsAtMost k b a) (IsAtMost l b a) a b most_follows h
  refuted_follows ops.Le a b h = refuted_or_null (IsLess k b a) (IsLess l b a) a b less_follows h
  refuted_follows ops.IsNull a b h = shown_not_null_follows h
  refuted_follows ops.NotNull a b h = class_follows h

  pub absurd_follows : Absurd k → Absurd l
  absurd_follows (Absurd.literals h) = Absurd.literals (literals_follow h)
  absurd_follows (Absurd.null h i) = Absurd.null (class_follows h) (shown_not_null_follows i)
  absurd_follows (Absurd.apart {a} {b} h i) =
      let at = f.learned ops.Ne a b h in Absurd.apart at.learned (equal_moves at.left_in at.right_in (equal_follows i))
  absurd_follows (Absurd.rising above c) = Absurd.rising above (chain_follows c)
