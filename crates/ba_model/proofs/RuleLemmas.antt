-- The heads of a rule's two queries.
use Rattle.std.proofs.Common.{◌≡◌, ◌≢◌, ◌∙◌, ap, refl, sym, subst, ℕ, All, IsTrue, List, [], ◌∷◌, map}
use Rattle.std.proofs.lemmas.List.Elements.{All-get_or}
use Rattle.std.proofs.lemmas.Option.{get_or_from_slice_get, slice_get_within}
use Rattle.std.specs.Prelude.{IfErr, None, Ok, Err, Result, Some, slice_get}
use Rattle.ba_model.specs.Fit.{IsQuery, PartFits, kind_of}
use Rattle.ba_model.specs.QueryFaults.{parts_match}
use Rattle.ba_model.specs.Readings.{OfFault}
use Rattle.ba_model.specs.RuleFaults.{IsSchemaFault, RuleFits, drafted}
use Rattle.ba_model.specs.SchemaFaults.{IsFirstFault}
use Rattle.ba_model.specs.declared.check_schema.SchemaDraft.{SchemaDraft}
use Rattle.ba_model.specs.declared.check_schema.SchemaFault.{SchemaFault}
use Rattle.ba_model.specs.declared.failure.Failure.{Failure}
use Rattle.ba_model.specs.declared.failure.Failure.TheVariants.{NoMemory, Fault}
use Rattle.ba_model.specs.declared.query.Part.{Part}
use Rattle.ba_model.specs.declared.query.Query.{Query}
use Rattle.ba_model.specs.declared.schema.Schema.{Schema}
use Rattle.ba_model.proofs.QueryLemmas.{kinds_match, match_kinds}

all_at : {X : Type 0} (P : X → Type 0) (xs : List X) (i : ℕ) (x : X) → slice_get xs i ≡ Some x → All P xs → P x
all_at P xs i x is h = subst P (get_or_from_slice_get xs i x x is) (All-get_or P xs i x (slice_get_within xs i x is) h)

-- a part of a query has its kinds
part_kinds : (s : Schema) (q : Query) (part : Part) (h : IsQuery s [] [] q) → slice_get q.parts 0 ≡ Some part → map (kind_of s [] [] part.from) part.head ≡ map Some (h.fits.kinds)
part_kinds s q part h is = (all_at (PartFits s [] [] (h.fits.kinds)) q.parts 0 part is (h.fits.parts)).head

-- where the first heads match, the rule fits
pub rule_fits : (s : Schema) (left right : Query) (part other : Part) → IsQuery s [] [] left → IsQuery s [] [] right →
    slice_get left.parts 0 ≡ Some part → slice_get right.parts 0 ≡ Some other → IsTrue (parts_match s [] [] part other) → RuleFits s (record { left = left; right = right })
rule_fits s left right part other h k one two e = record {
  left = h;
  right = k;
  kinds = sym (kinds_match s [] [] part.from other.from part.head other.head (h.fits.kinds) (k.fits.kinds) (part_kinds s left part h one) (part_kinds s right other k two) e);
}

-- where the rule fits, they match
pub fit_matches : (s : Schema) (left right : Query) (part other : Part) → slice_get left.parts 0 ≡ Some part → slice_get right.parts 0 ≡ Some other →
    RuleFits s (record { left = left; right = right }) → IsTrue (parts_match s [] [] part other)
fit_matches s left right part other one two h =
    match_kinds s [] [] part.from other.from part.head other.head (h.left.fits.kinds) (part_kinds s left part h.left one)
    (part_kinds s right other h.right two ∙ ap (λ ks. map Some ks) h.kinds)

-- a query has a first part
pub some_first : (s : Schema) (q : Query) → IsQuery s [] [] q → slice_get q.parts 0 ≢ None
some_first s q h e = h.fits.some_part (none_there q.parts e)
  where
    none_there : (parts : List Part) → slice_get parts 0 ≡ None → parts ≡ []
    none_there [] e = refl
    none_there (part ∷ parts) e = cc

-- the first fault of a draft's tables is the draft's
pub told_of_tables : {X : Type 0} (draft : SchemaDraft) (r : Result X (Failure SchemaFault)) →
    IfErr r (λ e. OfFault e (λ fault. IsFirstFault fault draft.tables)) → IfErr r (λ e. OfFault e (IsSchemaFault (drafted draft)))
told_of_tables draft (Ok x) h = tt
told_of_tables draft (Err NoMemory) h = tt
told_of_tables draft (Err (Fault fault)) h = IsSchemaFault.of_tables h
