-- The grounds of a read, as the loops test them, and what an allowed read gives.
use Rattle.std.proofs.Common.{◌≡◌, ◌≢◌, ◌∙◌, ℕ, zero, suc, ◌+◌, ◌<◌, ◌≤◌, Bool, true, false, List, [], ◌∷◌, ◌++◌, length, take, get_or, refl, sym, ap, subst, arith}
use Rattle.std.specs.Prelude.{◌↔◌, All, IsTrue, Some, slice_get}
use Rattle.std.specs.List.{AllZip}
use Rattle.std.proofs.lemmas.List.{take_all, take_more}
use Rattle.std.proofs.lemmas.List.Elements.{All-cons, All-head, All-more, All-nil, All-tail}
use Rattle.std.proofs.lemmas.Slice.Zip.{AllZip-long, all_zipped_more}
use Rattle.ba_comply.specs.Comply.{Complies, Records, Strong, StrongComplies}
use Rattle.ba_core.specs.Grounds.{Supports}
use Rattle.ba_core.specs.Runs.{AllowsCompliantly}
use Rattle.ba_core.specs.State.{IsOpenRequest, IsVersion, State, opened_at}
use Rattle.ba_core.specs.declared.event.Ground.{Ground}
use Rattle.ba_core.specs.declared.event.Ground.TheVariants.{Cover, Template, Proof, Refuse}
use Rattle.ba_core.specs.declared.opened.Opened.{Opened}
use Rattle.ba_model.specs.declared.policy.Policy.{Policy}
use Rattle.ba_model.specs.declared.query.Query.{Query}
use Rattle.ba_tables.specs.TableSet.{TableSet}

-- ---- the templates that grounds name

-- of the first elements, and of one more
pub all_more : {X : Type 0} (P : X → Type 0) (xs : List X) (i : ℕ) (x : X) → i < length xs → x ≡ get_or xs i x → All P (take i xs) → P x → All P (take (i + 1) xs)
all_more P xs i x lt is so_far here = All-more P xs i x lt so_far (subst P is here)

-- of all elements
pub all_whole : {X : Type 0} (P : X → Type 0) (xs : List X) (i : ℕ) → length xs ≤ i → All P (take i xs) → IsTrue true ↔ All P xs
all_whole P xs i past so_far = ((λ t. subst (All P) (take_all i xs past) so_far), (λ h. refl))

-- ---- two lists, side by side

module _ {A B : Type 0} (R : A → B → Type 0) where
  pub zip_more : (xs : List A) (ys : List B) (i : ℕ) (x : A) (y : B) → i < length xs → i < length ys → x ≡ get_or xs i x → y ≡ get_or ys i y → AllZip R (take i xs) (take i ys) → R x y → AllZip R (take (i + 1) xs) (take (i + 1) ys)
  zip_more xs ys i x y left right x_is y_is so_far here =
      let xs_are : take (i + 1) xs ≡ take i xs ++ x ∷ [] = take_more xs i x left ∙ ap (λ (z : A). take i xs ++ z ∷ []) (sym x_is) in
      let ys_are : take (i + 1) ys ≡ take i ys ++ y ∷ [] = take_more ys i y right ∙ ap (λ (z : B). take i ys ++ z ∷ []) (sym y_is) in
      rw (xs_are, ys_are) (all_zipped_more R (take i xs) (take i ys) x y so_far here)

  pub zip_whole : (xs : List A) (ys : List B) (i : ℕ) → length xs ≤ i → length ys ≤ i → AllZip R (take i xs) (take i ys) → AllZip R xs ys
  zip_whole xs ys i left right so_far =
      subst (λ (zs : List A). AllZip R zs ys) (take_all i xs left) (subst (λ (zs : List B). AllZip R (take i xs) zs) (take_all i ys right) so_far)

  pub zip_at : (xs : List A) (ys : List B) (i : ℕ) (x : A) (y : B) → i < length xs → x ≡ get_or xs i x → y ≡ get_or ys i y → AllZip R xs ys → R x y
  zip_at [] ys i x y lt x_is y_is h = absurd (omega (arith, lt))
  zip_at (a ∷ xs) [] i x y lt x_is y_is h = absurd h
  zip_at (a ∷ xs) (b ∷ ys) zero x y lt x_is y_is h = subst (λ (z : A). R z y) (sym x_is) (subst (λ (z : B). R a z) (sym y_is) h.0)
  zip_at (a ∷ xs) (b ∷ ys) (suc i) x y lt x_is y_is h = zip_at xs ys i x y (omega (arith, lt)) x_is y_is h.1

  pub unequal : (xs : List A) (ys : List B) → length xs ≢ length ys → IsTrue false ↔ AllZip R xs ys
  unequal xs ys apart = ((λ t. absurd (cc)), (λ h. absurd (apart (sym (AllZip-long R xs ys h)))))

  pub unfit_at : (xs : List A) (ys : List B) (i : ℕ) (x : A) (y : B) → i < length xs → x ≡ get_or xs i x → y ≡ get_or ys i y → (R x y → ⊥) → IsTrue false ↔ AllZip R xs ys
  unfit_at xs ys i x y lt x_is y_is unfit = ((λ t. absurd (cc)), (λ h. absurd (unfit (zip_at xs ys i x y lt x_is y_is h))))

-- ---- what a read is told

module _ (policy : Policy) (asker : Opened) where
  strong_of : (query : Query) (why : Ground) → Supports policy asker query why → why ≢ Refuse → Strong policy asker.context asker.trace query
  strong_of query (Cover cover) h answered = h
  strong_of query (Template n found) h answered = h
  strong_of query (Proof proof) h answered = h
  strong_of query Refuse h answered = absurd (answered refl)

  comply_all : (queries : List Query) (grounds : List Ground) → StrongComplies → AllZip (Supports policy asker) queries grounds → All (λ why. why ≢ Refuse) grounds → All (Complies policy asker.context asker.trace) queries
  comply_all [] [] law h answered = All-nil (Complies policy asker.context asker.trace)
  comply_all [] (why ∷ grounds) law h answered = absurd h
  comply_all (query ∷ queries) [] law h answered = absurd h
  comply_all (query ∷ queries) (why ∷ grounds) law h answered =
      All-cons (Complies policy asker.context asker.trace) query queries
      (law policy asker.context asker.trace query (strong_of query why h.0 (All-head (λ why. why ≢ Refuse) why grounds answered)))
      (comply_all queries grounds law h.1 (All-tail (λ why. why ≢ Refuse) why grounds answered))

some_is : (x y : TableSet) → Some x ≡ Some y → x ≡ y
some_is x y e = cc

pub read_complies : (old : State) (k : ℕ) (queries : List Query) (grounds : List Ground) (asker : Opened) (tables : TableSet) (allowed : Bool) → opened_at old k ≡ Some asker → IsOpenRequest old.policy old.versions asker
    → slice_get old.versions asker.version ≡ Some tables → IsVersion old.policy tables → StrongComplies → AllZip (Supports old.policy asker) queries grounds → (IsTrue allowed → All (λ why. why ≢ Refuse) grounds)
    → AllowsCompliantly old k queries allowed
read_complies old k queries grounds asker tables true is_open open_request pinned version law supports answered = record {
  asker = asker;
  is_open = is_open;
  tables = tables;
  pinned = pinned;
  conforms = version.conforms;
  recorded = subst (λ (t : TableSet). Records asker.trace asker.context t.rows) (some_is open_request.tables tables (sym open_request.pinned ∙ pinned)) open_request.recorded;
  comply = comply_all old.policy asker queries grounds law supports (answered refl);
}
read_complies old k queries grounds asker tables false is_open open_request pinned version law supports answered = tt
