use Rattle.std.proofs.Common.{◌≡◌, ◌<◌, ◌+◌, ℕ, List, ◌∷◌, [], ◌++◌, length, take, get_or, sym, ap, subst, arith}
use Rattle.sc_io.specs.declared.source_file.SourceFile.{SourceFile}
use Rattle.sc_sources.specs.declared.lexing.Lexed.{Lexed}
use Rattle.sc_sources.specs.Threads.{IsLexed, IsNamed, AreNamed, no_more, bytes_of}
use Rattle.sc_sources.proofs.Folders.{is_small, next_size, sizes_cut}
use Rattle.sc_sources.proofs.Threads.{lexed_at, named_next, named_few, bytes_next}
use Rattle.sc_sources.proofs.naming.name_all.Goals as goal

pub loop-i-init : goal.loop-i-init
loop-i-init c = (subst (AreNamed c.args.names.now [] c.args.names.now) (sym c.in_ok-all.ensures.items) no_more, omega arith)

pub name_one-requires-clause-size : goal.name_one-requires-clause-size
name_one-requires-clause-size c =
    let files : List SourceFile = c.args.files.now in
    let i : ℕ = c.loop-i.i in
    let d : SourceFile = c.index-files-i.result in
    let below : i < length files = omega arith in
    let here : get_or files i d ≡ d = cc in
    omega (arith, is_small files c.requires.within i d below, ap (λ (f : SourceFile). length f.bytes.items) here, ap length c.deref.ensures.value)

pub name_one-requires-clause-lexed : goal.name_one-requires-clause-lexed
name_one-requires-clause-lexed c =
    let files : List SourceFile = c.args.files.now in
    let i : ℕ = c.loop-i.i in
    let d : SourceFile = c.index-files-i.result in
    let e : Lexed = c.index-lexed-i.result in
    let below : i < length files = omega arith in
    let here : get_or files i d ≡ d = cc in
    let there : get_or c.args.lexed.now i e ≡ e = cc in
    let bytes : (get_or files i d).bytes.items ≡ c.deref.result.now = sym c.deref.ensures.value in
    subst (λ (b : List ℕ). IsLexed b e) bytes (subst (IsLexed (get_or files i d).bytes.items) there (lexed_at files c.args.lexed.now i d e below c.requires.lexed))

pub name_one-requires-clause-room : goal.name_one-requires-clause-room
name_one-requires-clause-room c =
    let files : List SourceFile = c.args.files.now in
    let i : ℕ = c.loop-i.i in
    let d : SourceFile = c.index-files-i.result in
    let below : i < length files = omega arith in
    let here : get_or files i d ≡ d = cc in
    omega (
      arith,
      c.loop-i.invariant.1,
      next_size files i d below,
      sizes_cut files (i + 1),
      c.requires.within.total,
      c.requires.room,
      ap (λ (f : SourceFile). length f.bytes.items) here,
      ap length c.deref.ensures.value,
    )

pub loop-i-preserved : goal.loop-i-preserved
loop-i-preserved c =
    let files : List SourceFile = c.args.files.now in
    let i : ℕ = c.loop-i.i in
    let d : SourceFile = c.index-files-i.result in
    let below : i < length files = omega arith in
    let here : get_or files i d ≡ d = cc in
    let bytes : c.deref.result.now ≡ (get_or files i d).bytes.items = c.deref.ensures.value in
    let is : IsNamed (get_or files i d).bytes.items c.loop-i.names c.name_one.new.names c.in-Ok.named = subst (λ (b : List ℕ). IsNamed b c.loop-i.names c.name_one.new.names c.in-Ok.named) bytes c.in-Ok.ensures in (
      subst (λ (bs : List (List ℕ)). AreNamed c.args.names.now bs c.name_one.new.names c.push.new.self.items) (sym (bytes_next files i d below))
          (subst (AreNamed c.args.names.now (bytes_of (take i files) ++ (get_or files i d).bytes.items ∷ []) c.name_one.new.names) (sym c.in_ok-push.ensures.items)
          (named_next (get_or files i d).bytes.items c.name_one.new.names c.in-Ok.named c.loop-i.invariant.0 is)),
      omega (arith, c.loop-i.invariant.1, next_size files i d below, named_few (get_or files i d).bytes.items c.loop-i.names c.name_one.new.names c.in-Ok.named is),
    )
