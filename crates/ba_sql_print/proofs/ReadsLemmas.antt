-- The text of a printed query reads as the query.
use Rattle.std.proofs.Common.{List, sym, subst}
use Rattle.std.specs.List.{All}
use Rattle.ba_lex.specs.declared.token.Lexeme.{Lexeme}
use Rattle.ba_model.specs.Limits.{most_query_bytes}
use Rattle.ba_model.specs.declared.policy.Parameter.{Parameter}
use Rattle.ba_model.specs.declared.query.Query.{Query}
use Rattle.ba_model.specs.declared.schema.Schema.{Schema}
use Rattle.ba_sql_query.specs.Reads.{ReadsQuery, ReadsWords}
use Rattle.ba_sql_print.specs.Printed.{query_text}
use Rattle.ba_sql_print.specs.ReadBack.{IsPrintable}
use Rattle.ba_sql_print.specs.Words.{query_words}
use Rattle.ba_sql_print.proofs.MeansLemmas.{query_means}
use Rattle.ba_sql_print.proofs.SupportedLemmas.{query_supported}
use Rattle.ba_sql_print.proofs.WritableLemmas.{part_writes, printed_words}
use Rattle.ba_sql_print.proofs.WrittenLemmas.{CanReadPart, query_is, written_query}

parts_read : (s : Schema) (p : List Parameter) (q : Query) → IsPrintable s p q → All (CanReadPart s p) q.parts
parts_read s p q h k d lt =
    let spelling = h.spelling in
    let checked = spelling.checked in
    record {
      writes = part_writes s p checked.fits.kinds _ spelling.table_names spelling.param_names (checked.fits.parts k d lt) (checked.within k d lt)
          (spelling.parts k d lt);
      kinds = checked.fits.kinds;
      some_kind = checked.fits.some_kind;
      fits = checked.fits.parts k d lt;
    }

words_read : (s : Schema) (p : List Parameter) (q : Query) → IsPrintable s p q → ReadsWords s p (query_words s p q) q
words_read s p q h =
    let parts = parts_read s p q h in
    record {
      supported = query_supported s p q parts;
      written = written_query s p q;
      form = query_is s p q h.spelling.checked.fits.some_part parts;
      means = query_means s p q h.tables h.params_apart h.spelling.checked h.spelling.parts;
    }

pub printed_reads : (s : Schema) (p : List Parameter) (q : Query) → IsPrintable s p q → ReadsQuery s p (query_text s p q) q
printed_reads s p q h =
    let words = printed_words s p q most_query_bytes h.spelling h.short in
    record { tokens = words.tokens; are = words.read; reads = subst (λ (ws : List Lexeme). ReadsWords s p ws q) (sym words.say) (words_read s p q h) }
