-- Clauses, faults and kinds of evidence are read exactly under their names.
use Rattle.std.proofs.Common.{◌≡◌, ◌∙◌, ℕ, List, Bool, true, false, Option, Some, None, Result, Ok, Err, refl, sym, ap, subst, codes}
use Rattle.std.specs.Str.{bytes_eq}
use Rattle.serde_json.specs.Data.{Data, string}
use Rattle.ba_lex.specs.declared.token.LexFault.{LexFault}
use Rattle.ba_lex.specs.declared.token.LexFault.TheVariants as lex
use Rattle.ba_proof.proofs.FitLemmas.{bound}
use Rattle.ba_proof.proofs.PutLemmas.{same_text}
use Rattle.ba_refute.specs.declared.clause.Clause.{Clause}
use Rattle.ba_refute.specs.declared.clause.Clause.TheVariants as clause
use Rattle.ba_sql_query.specs.declared.fault.ReadQueryFault.{ReadQueryFault}
use Rattle.ba_sql_query.specs.declared.fault.ReadQueryFault.TheVariants as query
use Rattle.ba_wire.specs.Names.{fault_name}
use Rattle.ba_wire.specs.Printed.{by_name, clause_name, unsupported_in}
use Rattle.ba_wire.specs.declared.line.By.{By}
use Rattle.ba_wire.specs.declared.line.By.TheVariants as by
use Rattle.ba_printed.proofs.FieldLemmas.{choose, ok_is, text_of_is}
use Rattle.ba_printed.specs.Reading.{by_at, by_named, clause_named, fault_named, lex_named}
use Rattle.ba_printed.specs.Shapes.{text_of}
use Rattle.ba_printed.specs.declared.shapes.FormFault.{FormFault}

-- ---- clauses

one_clause : (s name : List ℕ) (it other : Clause) → bytes_eq s name ≡ true → name ≡ clause_name it → ◌≡◌ {A = Result Clause FormFault} (Ok it) (Ok other) → s ≡ clause_name other
one_clause s name it other b is e = same_text s name b ∙ (is ∙ ap clause_name (ok_is {F = FormFault} it other e))

pub clause_is : (s : List ℕ) (it : Clause) → clause_named s ≡ Ok it → s ≡ clause_name it
unfolding clause_named
clause_is s it e0 =
    choose (s ≡ clause_name it) (bytes_eq s (codes "value")) _ _ it e0 (λ b h. one_clause s (codes "value") clause.Value it b refl h)
    (λ e1. choose (s ≡ clause_name it) (bytes_eq s (codes "conform_one")) _ _ it e1 (λ b h. one_clause s (codes "conform_one") clause.ConformOne it b refl h)
    (λ e2. choose (s ≡ clause_name it) (bytes_eq s (codes "conform_two")) _ _ it e2 (λ b h. one_clause s (codes "conform_two") clause.ConformTwo it b refl h)
    (λ e3. choose (s ≡ clause_name it) (bytes_eq s (codes "within")) _ _ it e3 (λ b h. one_clause s (codes "within") clause.Within it b refl h)
    (λ e4. choose (s ≡ clause_name it) (bytes_eq s (codes "shown")) _ _ it e4 (λ b h. one_clause s (codes "shown") clause.Shown it b refl h)
    (λ e5. choose (s ≡ clause_name it) (bytes_eq s (codes "asked")) _ _ it e5 (λ b h. one_clause s (codes "asked") clause.Asked it b refl h)
    (λ e6. choose (s ≡ clause_name it) (bytes_eq s (codes "absent")) _ _ it e6 (λ b h. one_clause s (codes "absent") clause.Absent it b refl h)
    (λ e7. cc e7)))))))

pub clause_said : (it : Clause) → clause_named (clause_name it) ≡ Ok it
unfolding clause_named
clause_said clause.Value = refl
clause_said clause.ConformOne = refl
clause_said clause.ConformTwo = refl
clause_said clause.Within = refl
clause_said clause.Shown = refl
clause_said clause.Asked = refl
clause_said clause.Absent = refl

-- ---- faults

-- the fault has the name, and no word
pub record FaultNamed (s : List ℕ) (it : ReadQueryFault) : Type 0 where
  pub called : s ≡ fault_name it
  pub wordless : unsupported_in it ≡ None

one_fault : (s name : List ℕ) (it other : ReadQueryFault) → bytes_eq s name ≡ true → name ≡ fault_name it → unsupported_in it ≡ None
    → ◌≡◌ {A = Result ReadQueryFault FormFault} (Ok it) (Ok other) → FaultNamed s other
one_fault s name it other b is none e =
    subst (FaultNamed s) (ok_is {F = FormFault} it other e) (record { called = same_text s name b ∙ is; wordless = none })

lex_is : (s : List ℕ) (it : ReadQueryFault) → lex_named s ≡ Ok it → FaultNamed s it
unfolding lex_named fault_name
lex_is s it e0 =
    choose (FaultNamed s it) (bytes_eq s (codes "too_long")) _ _ it e0 (λ b h. one_fault s (codes "too_long") (query.Lex lex.TooLong) it b refl refl h)
    (λ e1. choose (FaultNamed s it) (bytes_eq s (codes "bad_byte")) _ _ it e1 (λ b h. one_fault s (codes "bad_byte") (query.Lex lex.BadByte) it b refl refl h)
    (λ e2. choose (FaultNamed s it) (bytes_eq s (codes "open_quote")) _ _ it e2 (λ b h. one_fault s (codes "open_quote") (query.Lex lex.OpenQuote) it b refl refl h)
    (λ e3. choose (FaultNamed s it) (bytes_eq s (codes "number_too_large")) _ _ it e3 (λ b h. one_fault s (codes "number_too_large") (query.Lex lex.NumberTooLarge) it b refl refl h)
    (λ e4. cc e4))))

pub fault_is : (s : List ℕ) (it : ReadQueryFault) → fault_named s ≡ Ok it → FaultNamed s it
unfolding fault_named fault_name
fault_is s it e0 =
    choose (FaultNamed s it) (bytes_eq s (codes "syntax")) _ _ it e0 (λ b h. one_fault s (codes "syntax") query.Syntax it b refl refl h)
    (λ e1. choose (FaultNamed s it) (bytes_eq s (codes "unknown_table")) _ _ it e1 (λ b h. one_fault s (codes "unknown_table") query.UnknownTable it b refl refl h)
    (λ e2. choose (FaultNamed s it) (bytes_eq s (codes "unknown_column")) _ _ it e2 (λ b h. one_fault s (codes "unknown_column") query.UnknownColumn it b refl refl h)
    (λ e3. choose (FaultNamed s it) (bytes_eq s (codes "ambiguous")) _ _ it e3 (λ b h. one_fault s (codes "ambiguous") query.Ambiguous it b refl refl h)
    (λ e4. choose (FaultNamed s it) (bytes_eq s (codes "unknown_param")) _ _ it e4 (λ b h. one_fault s (codes "unknown_param") query.UnknownParam it b refl refl h)
    (λ e5. choose (FaultNamed s it) (bytes_eq s (codes "kind_differs")) _ _ it e5 (λ b h. one_fault s (codes "kind_differs") query.KindDiffers it b refl refl h)
    (λ e6. choose (FaultNamed s it) (bytes_eq s (codes "order_on_text")) _ _ it e6 (λ b h. one_fault s (codes "order_on_text") query.OrderOnText it b refl refl h)
    (λ e7. choose (FaultNamed s it) (bytes_eq s (codes "head_differs")) _ _ it e7 (λ b h. one_fault s (codes "head_differs") query.HeadDiffers it b refl refl h)
    (λ e8. choose (FaultNamed s it) (bytes_eq s (codes "too_many")) _ _ it e8 (λ b h. one_fault s (codes "too_many") query.TooMany it b refl refl h)
    (λ e9. lex_is s it e9)))))))))

pub fault_said : (it : ReadQueryFault) → unsupported_in it ≡ None → fault_named (fault_name it) ≡ Ok it
unfolding fault_named lex_named fault_name
fault_said (query.Lex lex.TooLong) none = refl
fault_said (query.Lex lex.BadByte) none = refl
fault_said (query.Lex lex.OpenQuote) none = refl
fault_said (query.Lex lex.NumberTooLarge) none = refl
fault_said (query.Unsupported word) none = cc none
fault_said query.Syntax none = refl
fault_said query.UnknownTable none = refl
fault_said query.UnknownColumn none = refl
fault_said query.Ambiguous none = refl
fault_said query.UnknownParam none = refl
fault_said query.KindDiffers none = refl
fault_said query.OrderOnText none = refl
fault_said query.HeadDiffers none = refl
fault_said query.TooMany none = refl

pub unsupported_is : (it : ReadQueryFault) (word : List ℕ) → unsupported_in it ≡ Some word → it ≡ query.Unsupported word
unsupported_is (query.Lex fault) word e = cc e
unsupported_is (query.Unsupported w) word e = let same : w ≡ word = cc e in ap query.Unsupported same
unsupported_is query.Syntax word e = cc e
unsupported_is query.UnknownTable word e = cc e
unsupported_is query.UnknownColumn word e = cc e
unsupported_is query.Ambiguous word e = cc e
unsupported_is query.UnknownParam word e = cc e
unsupported_is query.KindDiffers word e = cc e
unsupported_is query.OrderOnText word e = cc e
unsupported_is query.HeadDiffers word e = cc e
unsupported_is query.TooMany word e = cc e

pub unsupported_name : (word : List ℕ) → fault_name (query.Unsupported word) ≡ codes "unsupported"
unfolding fault_name
unsupported_name word = refl

-- ---- kinds of evidence

one_by : (s name : List ℕ) (it other : By) → bytes_eq s name ≡ true → name ≡ by_name it → ◌≡◌ {A = Result By FormFault} (Ok it) (Ok other) → s ≡ by_name other
one_by s name it other b is e = same_text s name b ∙ (is ∙ ap by_name (ok_is {F = FormFault} it other e))

by_is : (s : List ℕ) (it : By) → by_named s ≡ Ok it → s ≡ by_name it
unfolding by_named
by_is s it e0 =
    choose (s ≡ by_name it) (bytes_eq s (codes "cover")) _ _ it e0 (λ b h. one_by s (codes "cover") by.Cover it b refl h)
    (λ e1. choose (s ≡ by_name it) (bytes_eq s (codes "template")) _ _ it e1 (λ b h. one_by s (codes "template") by.Template it b refl h)
    (λ e2. choose (s ≡ by_name it) (bytes_eq s (codes "proof")) _ _ it e2 (λ b h. one_by s (codes "proof") by.Proof it b refl h)
    (λ e3. cc e3)))

by_said : (it : By) → by_named (by_name it) ≡ Ok it
unfolding by_named
by_said by.Cover = refl
by_said by.Template = refl
by_said by.Proof = refl

pub by_at_is : (d : Data) (it : By) → by_at d ≡ Ok it → d ≡ string (by_name it)
unfolding by_at
by_at_is d it e =
    let name = bound (text_of d) by_named it e in
    text_of_is d name.0 name.1 ∙ ap string (by_is name.0 it name.2)

pub by_at_said : (it : By) → by_at (string (by_name it)) ≡ Ok it
unfolding by_at
by_at_said it = by_said it
