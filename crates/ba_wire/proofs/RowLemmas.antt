-- The tokens of rows, and what they read as.
use Rattle.std.proofs.Common.{◌≡◌, ℕ, ◌+◌, FitsSigned, w64, ℤ, pos, negsuc, List, [], ◌∷◌, ◌++◌, map, take, Some, option_map, refl, sym, ap, ◌∙◌, arith, append_assoc, append-nil, subst}
use Rattle.std.proofs.lemmas.List.Elements.{All-head, All-nil, All-push, All-tail}
use Rattle.std.proofs.lemmas.List.Concat.{flat_map-append}
use Rattle.std.specs.Fmt.{signed_decimal}
use Rattle.std.specs.List.{All, flat_map}
use Rattle.json.specs.Token.{Token, begin_array, end_array}
use Rattle.json.specs.Tree.{items_tokens, json_tokens}
use Rattle.json.specs.Written.{Written}
use Rattle.serde_json.specs.Data.{Data, array, number}
use Rattle.serde_json.specs.Find.{of_integer}
use Rattle.serde_json.specs.Read.{number_of, of_items, of_json}
use Rattle.serde_json.specs.View.{items_of}
use Rattle.serde_json.specs.Written.{items_outline, number_text, outline}
use Rattle.serde_json.proofs.Numbers.{number_of-decimal, number_of-negative}
use Rattle.ba_wire.specs.Appended.{Adds}

-- ---- what one value adds

integer_text : (n : ℤ) → number_text (of_integer n) ≡ signed_decimal n
integer_text (pos n) = refl
integer_text (negsuc n) = refl

integer_reads : (n : ℤ) → FitsSigned w64 n → option_map number (number_of (number_text (of_integer n))) ≡ Some (number (of_integer n))
integer_reads (pos n) fits = let inside = fits.sfits in ap (option_map number) (number_of-decimal n (omega arith))
integer_reads (negsuc n) fits = let inside = fits.sfits in ap (option_map number) (number_of-negative n inside)

pub adds_integer : (n : ℤ) (old new : Written) → FitsSigned w64 n → new.before ≡ old.before → new.tokens ≡ old.tokens ++ Token.number (signed_decimal n) ∷ [] → Adds (number (of_integer n)) old new
adds_integer n old new fits before tokens = record {
  before = before;
  tokens = tokens ∙ ap (λ s. old.tokens ++ Token.number s ∷ []) (sym (integer_text n));
  reads = integer_reads n fits;
}

-- ---- what an array adds

-- an array's elements after its bracket, those before a place
pub record Within {X : Type 0} (f : X → Data) (xs : List X) (i : ℕ) (start now : Written) : Type 0 where
  pub before : now.before ≡ start.before
  pub tokens : now.tokens ≡ (start.tokens ++ begin_array ∷ []) ++ flat_map (λ x. json_tokens (outline (f x))) (take i xs)
  pub reads : All (λ x. of_json (outline (f x)) ≡ Some (f x)) (take i xs)

module _ {X : Type 0} (f : X → Data) where
  items_are : (xs : List X) → items_tokens (items_outline (items_of (map f xs))) ≡ flat_map (λ x. json_tokens (outline (f x))) xs ++ end_array ∷ []
  items_are [] = refl
  items_are (x ∷ xs) = ap (λ ts. json_tokens (outline (f x)) ++ ts) (items_are xs) ∙ sym (append_assoc (json_tokens (outline (f x))) (flat_map (λ y. json_tokens (outline (f y))) xs) (end_array ∷ []))

  items_read : (xs : List X) → All (λ x. of_json (outline (f x)) ≡ Some (f x)) xs → of_items (items_outline (items_of (map f xs))) ≡ Some (items_of (map f xs))
  items_read [] h = refl
  items_read (x ∷ xs) h =
      let first = All-head (λ y. of_json (outline (f y)) ≡ Some (f y)) x xs h in
      let rest = items_read xs (All-tail (λ y. of_json (outline (f y)) ≡ Some (f y)) x xs h) in
      rw (first, rest) refl

  pub none_within : (xs : List X) (start now : Written) → now.before ≡ start.before → now.tokens ≡ start.tokens ++ begin_array ∷ [] → Within f xs 0 start now
  none_within xs start now before tokens = record {
    before = before;
    tokens = tokens ∙ sym (append-nil (start.tokens ++ begin_array ∷ []));
    reads = All-nil (λ x. of_json (outline (f x)) ≡ Some (f x));
  }

  pub one_within : (xs : List X) (i : ℕ) (x : X) (start now next : Written) → Within f xs i start now → take (i + 1) xs ≡ take i xs ++ x ∷ [] → Adds (f x) now next → Within f xs (i + 1) start next
  one_within xs i x start now next h more adds = record {
    before = adds.before ∙ h.before;
    tokens =
        adds.tokens
        ∙ (ap (λ ts. ts ++ json_tokens (outline (f x))) h.tokens
        ∙ (append_assoc (start.tokens ++ begin_array ∷ []) (flat_map (λ y. json_tokens (outline (f y))) (take i xs)) (json_tokens (outline (f x)))
        ∙ ap (λ ts. (start.tokens ++ begin_array ∷ []) ++ ts)
        (ap (λ ts. flat_map (λ y. json_tokens (outline (f y))) (take i xs) ++ ts) (sym (append-nil (json_tokens (outline (f x)))))
        ∙ (sym (flat_map-append (λ y. json_tokens (outline (f y))) (take i xs) (x ∷ [])) ∙ ap (flat_map (λ y. json_tokens (outline (f y)))) (sym more)))));
    reads = rw more (All-push (λ y. of_json (outline (f y)) ≡ Some (f y)) (take i xs) x h.reads adds.reads);
  }

  pub all_within : (xs : List X) (i : ℕ) (start now next : Written) → Within f xs i start now → take i xs ≡ xs → next.before ≡ now.before → next.tokens ≡ now.tokens ++ end_array ∷ [] → Adds (array (items_of (map f xs))) start next
  all_within xs i start now next h whole before tokens =
      let reads = items_read xs (subst (All (λ x. of_json (outline (f x)) ≡ Some (f x))) whole h.reads) in
      record {
        before = before ∙ h.before;
        tokens =
            tokens
            ∙ (ap (λ ts. ts ++ end_array ∷ []) (h.tokens ∙ ap (λ ys. (start.tokens ++ begin_array ∷ []) ++ flat_map (λ y. json_tokens (outline (f y))) ys) whole)
            ∙ (append_assoc (start.tokens ++ begin_array ∷ []) (flat_map (λ y. json_tokens (outline (f y))) xs) (end_array ∷ [])
            ∙ (ap (λ ts. (start.tokens ++ begin_array ∷ []) ++ ts) (sym (items_are xs)) ∙ append_assoc start.tokens (begin_array ∷ []) (items_tokens (items_outline (items_of (map f xs)))))));
        reads = ap (option_map array) reads;
      }
