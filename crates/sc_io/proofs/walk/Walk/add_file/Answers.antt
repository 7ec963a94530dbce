use Rattle.std.proofs.Common.{List, ℕ, String, refl, string_bytes, subst}
use Rattle.std.specs.declared.alloc.Global.{Global}
use Rattle.std.proofs.lemmas.List.Elements.{All-push}
use Rattle.sc_io.specs.SourceTree.{IsJavaPath}
use Rattle.sc_io.proofs.walk.Walk.add_file.Goals as goal

pub returns-in_ok-push-clause-sources : goal.returns-in_ok-push-clause-sources
returns-in_ok-push-clause-sources c =
    let IsJava : List ℕ → Type 0 = λ path. IsJavaPath path in
    let java = subst IsJava c.as_str.ensures.value (c.if-is_java_path.ensures.0 refl) in
    let IsSource : String Global → Type 0 = λ path. IsJavaPath (string_bytes path) in
    record { each = rw (c.in_ok-push.ensures.items, c.count_entry.ensures.paths) (All-push IsSource _ c.args.path c.requires.each java) }
