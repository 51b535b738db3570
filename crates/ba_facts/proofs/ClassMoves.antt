-- What is known of terms is known of all terms of their classes.
use Rattle.std.proofs.Common.{◌⊎◌, inl, inr, ℤ, pos}
use Rattle.ba_model.specs.declared.query.Op.{Op}
use Rattle.ba_model.specs.declared.query.Op.TheVariants as ops
use Rattle.ba_facts.proofs.ChainLemmas.{from_class, onward}
use Rattle.ba_facts.specs.Known.{DifferentLiterals, Known, OneClass, ShownGap, ShownNotNull}
use Rattle.ba_facts.specs.Matches.{IsLiveOf}
use Rattle.ba_facts.specs.Shown.{AreTheTwo, EitherNull, IsAtMost, IsEqual, IsLess, IsUnequal, NeitherNull, RefutesOf, ShowsOf, TheSame}
use Rattle.ba_facts.specs.declared.term.Term.{Term}

pub gap_moves : {k : Known} {a b x y : Term} (n : ℤ) → OneClass k a x → OneClass k b y → ShownGap k a n b → ShownGap k x n y
gap_moves n at to h = record { sum = h.sum; enough = h.enough; chain = onward (from_class (OneClass.turned at) h.chain) to }

pub same_moves : (k : Known) (a b x y : Term) → OneClass k a x → OneClass k b y → TheSame k a b → TheSame k x y
same_moves k a b x y at to (inl h) = inl (OneClass.joined (OneClass.turned at) (OneClass.joined h to))
same_moves k a b x y at to (inr h) = inr (gap_moves (pos 0) at to h.0, gap_moves (pos 0) to at h.1)

pub not_null_moves : {k : Known} {a x : Term} → OneClass k a x → ShownNotNull k a → ShownNotNull k x
not_null_moves at h = record { other = h.other; class = OneClass.joined (OneClass.turned at) h.class; not_null = h.not_null }

pub neither_moves : {k : Known} {a b x y : Term} → OneClass k a x → OneClass k b y → NeitherNull k a b → NeitherNull k x y
neither_moves at to h = record { left = not_null_moves at h.left; right = not_null_moves to h.right }

pub equal_moves : {k : Known} {a b x y : Term} → OneClass k a x → OneClass k b y → IsEqual k a b → IsEqual k x y
equal_moves {k} {a} {b} {x} {y} at to h = record { not_null = neither_moves at to h.not_null; same = same_moves k a b x y at to h.same }

pub most_moves : {k : Known} {a b x y : Term} → OneClass k a x → OneClass k b y → IsAtMost k a b → IsAtMost k x y
most_moves at to h = record { not_null = neither_moves at to h.not_null; gap = gap_moves (pos 0) at to h.gap }

pub less_moves : {k : Known} {a b x y : Term} → OneClass k a x → OneClass k b y → IsLess k a b → IsLess k x y
less_moves at to h = record { not_null = neither_moves at to h.not_null; gap = gap_moves (pos 1) at to h.gap }

pub literals_move : {k : Known} {a b x y : Term} → OneClass k a x → OneClass k b y → DifferentLiterals k a b → DifferentLiterals k x y
literals_move at to h = record {
  left = h.left;
  right = h.right;
  left_in = OneClass.joined (OneClass.turned at) h.left_in;
  right_in = OneClass.joined (OneClass.turned to) h.right_in;
  differ = h.differ;
}

pub two_move : (k : Known) (a b x y u v : Term) → OneClass k a x → OneClass k b y → AreTheTwo k u v a b → AreTheTwo k u v x y
two_move k a b x y u v at to (inl h) = inl (same_moves k a u x u at OneClass.itself h.0, same_moves k b v y v to OneClass.itself h.1)
two_move k a b x y u v at to (inr h) = inr (same_moves k a v x v at OneClass.itself h.0, same_moves k b u y u to OneClass.itself h.1)

pub either_moves : (k : Known) (a b x y : Term) → OneClass k a x → OneClass k b y → EitherNull k a b → EitherNull k x y
either_moves k a b x y at to (inl h) = inl (OneClass.joined (OneClass.turned at) h)
either_moves k a b x y at to (inr h) = inr (OneClass.joined (OneClass.turned to) h)

pub unequal_moves : {k : Known} {a b x y : Term} → OneClass k a x → OneClass k b y → IsUnequal k a b → IsUnequal k x y
unequal_moves at to (IsUnequal.literals h) = IsUnequal.literals (literals_move at to h)
unequal_moves at to (IsUnequal.less h) = IsUnequal.less (less_moves at to h)
unequal_moves at to (IsUnequal.greater h) = IsUnequal.greater (less_moves to at h)
unequal_moves {k} {a} {b} {x} {y} at to (IsUnequal.apart h) =
    IsUnequal.apart (record { x = h.x; y = h.y; learned = h.learned; sides = two_move k a b x y h.x h.y at to h.sides })
unequal_moves {k} {a} {b} {x} {y} at to (IsUnequal.null h) = IsUnequal.null (either_moves k a b x y at to h)

pub shown_moves : (k : Known) (op : Op) (a b x y : Term) → OneClass k a x → OneClass k b y → ShowsOf k op a b → ShowsOf k op x y
shown_moves k ops.Eq a b x y at to h = equal_moves at to h
shown_moves k ops.Ne a b x y at to h = (neither_moves at to h.0, unequal_moves at to h.1)
shown_moves k ops.Lt a b x y at to h = less_moves at to h
shown_moves k ops.Le a b x y at to h = most_moves at to h
shown_moves k ops.IsNull a b x y at to h = OneClass.joined (OneClass.turned at) h
shown_moves k ops.NotNull a b x y at to h = not_null_moves at h

refuted_or_null : (k : Known) (P Q : Type 0) (a b x y : Term) → OneClass k a x → OneClass k b y → (P → Q) → P ⊎ EitherNull k a b → Q ⊎ EitherNull k x y
refuted_or_null k P Q a b x y at to onto (inl h) = inl (onto h)
refuted_or_null k P Q a b x y at to onto (inr h) = inr (either_moves k a b x y at to h)

pub refuted_moves : (k : Known) (op : Op) (a b x y : Term) → OneClass k a x → OneClass k b y → RefutesOf k op a b → RefutesOf k op x y
refuted_moves k ops.Eq a b x y at to h = unequal_moves at to h
refuted_moves k ops.Ne a b x y at to h = refuted_or_null k (IsEqual k a b) (IsEqual k x y) a b x y at to (equal_moves at to) h
refuted_moves k ops.Lt a b x y at to h = refuted_or_null k (IsAtMost k b a) (IsAtMost k y x) a b x y at to (most_moves to at) h
refuted_moves k ops.Le a b x y at to h = refuted_or_null k (IsLess k b a) (IsLess k y x) a b x y at to (less_moves to at) h
refuted_moves k ops.IsNull a b x y at to h = not_null_moves at h
refuted_moves k ops.NotNull a b x y at to h = OneClass.joined (OneClass.turned at) h

pub live_moves : (k : Known) (op : Op) (a b x y : Term) → OneClass k a x → OneClass k b y → IsLiveOf k op a b → IsLiveOf k op x y
live_moves k ops.Eq a b x y at to h = shown_moves k ops.Eq a b x y at to h
live_moves k ops.Ne a b x y at to h = λ no. h (refuted_moves k ops.Ne x y a b (OneClass.turned at) (OneClass.turned to) no)
live_moves k ops.Lt a b x y at to h = λ no. h (refuted_moves k ops.Lt x y a b (OneClass.turned at) (OneClass.turned to) no)
live_moves k ops.Le a b x y at to h = λ no. h (refuted_moves k ops.Le x y a b (OneClass.turned at) (OneClass.turned to) no)
live_moves k ops.IsNull a b x y at to h = λ no. h (refuted_moves k ops.IsNull x y a b (OneClass.turned at) (OneClass.turned to) no)
live_moves k ops.NotNull a b x y at to h = λ no. h (refuted_moves k ops.NotNull x y a b (OneClass.turned at) (OneClass.turned to) no)
