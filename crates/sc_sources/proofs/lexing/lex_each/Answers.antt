use Rattle.std.proofs.Common.{◌≡◌, ◌<◌, ℕ, List, length, take, ◌+◌, get_or, sym, ap, ◌∙◌, subst, arith}
use Rattle.sc_io.specs.declared.source_file.SourceFile.{SourceFile}
use Rattle.sc_sources.specs.Threads.{AreLexed, IsLexed}
use Rattle.sc_sources.proofs.Threads.{lexed_next}
use Rattle.sc_sources.proofs.lexing.lex_each.Goals as goal

pub loop-file-preserved : goal.loop-file-preserved
loop-file-preserved c =
    let files : List SourceFile = c.args.files.now in
    let i : ℕ = c.loop-file.file-index in
    let d : SourceFile = c.file-item.result in
    let below : i < length files = omega arith in
    let here : get_or files i d ≡ d = cc in
    let bytes : c.deref.result.now ≡ (get_or files i d).bytes.items = c.deref.ensures.value ∙ sym (ap (λ (f : SourceFile). f.bytes.items) here) in
    subst (AreLexed (take (i + 1) files)) (sym c.in_ok-push.ensures.items)
    (lexed_next files c.loop-file.all.items i d c.lex_one-lexed.result below c.loop-file.invariant (subst (λ (b : List ℕ). IsLexed b c.lex_one-lexed.result) bytes c.lex_one-lexed.ensures))
