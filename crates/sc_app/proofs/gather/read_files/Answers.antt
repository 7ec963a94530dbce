use Rattle.std.proofs.Common.{◌≡◌, ◌+◌, ◌≤◌, ◌++◌, ◌∷◌, [], suc, List, length, map, string_bytes, String, Global, Option, None, IfSome, sym, ap, subst, ◌∙◌, refl, arith, length-append}
use Rattle.std.specs.Vec.Iter.{into_iter_items}
use Rattle.std.proofs.lemmas.List.{length-map, map-append}
use Rattle.sc_io.specs.declared.content.Content.{Content}
use Rattle.sc_io.specs.SourceFile.{source_of, sources_of}
use Rattle.sc_io.specs.SourceTree.{FileOf, IsWithin, ReadsFile}
use Rattle.sc_app.specs.declared.status.Which.TheVariants.{FileBytes, TotalBytes}
use Rattle.sc_app.specs.Gathered.{ListsInOrder}
use Rattle.sc_app.specs.Sourced.{AreSources, passed_from}
use Rattle.sc_app.proofs.GatherLemmas.{PassesOf, may_read, no_more, not_whole, one_more_size, one_more_unpassed, read_too_long, read_too_many, read_whole}
use Rattle.sc_app.proofs.Limits.{few_bytes, sizes, within_limits}
use Rattle.sc_app.proofs.Sourcing.{IsFront, all_read, nothing_read}
use Rattle.sc_app.proofs.Telling.{IfSome-map}
use Rattle.sc_app.proofs.gather.read_files.Goals as goal

pub loop-path-init : goal.loop-path-init
loop-path-init g c =
    rw (c.new-files.ensures.items, c.into_iter-path-iterator.ensures.into_iter_gives.0) (
      refl,
      omega arith,
      IfSome-map (g.T.SourceTree.files c.args.tree.now) (λ fs. ListsInOrder fs (map string_bytes c.args.paths.items)) (IsFront [] (map string_bytes c.args.paths.items)) (λ fs listed. nothing_read fs (map string_bytes c.args.paths.items) listed) c.requires.listed,
      refl,
      refl,
      omega (arith, c.requires.few),
      omega (arith, c.into_iter-path-iterator.ensures.into_iter_gives.1, c.args.paths.ok.0),
    )

pub read-requires : goal.read-requires
read-requires g c =
    let at = c.loop-path in
    let front = subst (λ (l : List (String Global)). IfSome (g.T.SourceTree.files at.tree) (IsFront (sources_of at.files.items) (map string_bytes l))) c.in-Some.ensures.steps.0 at.invariant.2 in
    may_read (g.T.SourceTree.files at.tree) (sources_of at.files.items) (string_bytes c.in-Some.path) c.as_str.result.now (map string_bytes (into_iter_items c.next.new.self)) c.as_str.ensures.value front

pub returns-in_default-clause-gathered : goal.returns-in_default-clause-gathered
returns-in_default-clause-gathered g c =
    let at = c.loop-path in
    let left = map string_bytes (into_iter_items c.next.new.self) in
    let front = subst (λ (l : List (String Global)). IfSome (g.T.SourceTree.files at.tree) (IsFront (sources_of at.files.items) (map string_bytes l))) c.in-Some.ensures.steps.0 at.invariant.2 in
    let steps : length (into_iter_items at.path-iterator) ≡ suc (length (into_iter_items c.next.new.self)) = ap length c.in-Some.ensures.steps.0 in
    let count : length left ≡ length (into_iter_items c.next.new.self) = length-map (into_iter_items c.next.new.self) string_bytes in
    let few : length (sources_of at.files.items) + suc (length left) ≤ 4096 = omega (arith, at.invariant.5, steps, count) in
    let gives = subst (λ (o : Option (List FileOf)). IfSome o (λ fs. ReadsFile fs c.as_str.result.now 1048576 c.in_ok-bytes.field-0)) c.in_ok-bytes.ensures.same c.in_ok-bytes.ensures.read in
    let long = subst (λ (k : Content). IfSome (g.T.SourceTree.files at.tree) (λ fs. ReadsFile fs c.as_str.result.now 1048576 k)) (not_whole c.in_ok-bytes.field-0 c.in_default.not-Whole) gives in
    subst (λ (o : Option (List FileOf)). IfSome o (PassesOf FileBytes)) at.invariant.0 (read_too_long (g.T.SourceTree.files at.tree) (sources_of at.files.items) (string_bytes c.in-Some.path) c.as_str.result.now left c.as_str.ensures.value front few at.invariant.4 long)

pub overflow_add-total : goal.overflow_add-total
overflow_add-total g c =
    let small : length c.in-Whole.bytes.items ≤ 1048576 = subst (IsWithin 1048576) c.in-Whole.is c.in_ok-bytes.ensures.within in
    let few : sizes (sources_of c.loop-path.files.items) ≤ 4194304 = few_bytes (sources_of c.loop-path.files.items) c.loop-path.invariant.4 in
    omega (arith, c.loop-path.invariant.3, few, small, c.len-total.ensures, c.in-Whole.bytes.ok.0)

pub returns-then-total-gt-MOST_TOTAL-clause-gathered : goal.returns-then-total-gt-MOST_TOTAL-clause-gathered
returns-then-total-gt-MOST_TOTAL-clause-gathered g c =
    let at = c.loop-path in
    let left = map string_bytes (into_iter_items c.next.new.self) in
    let front = subst (λ (l : List (String Global)). IfSome (g.T.SourceTree.files at.tree) (IsFront (sources_of at.files.items) (map string_bytes l))) c.in-Some.ensures.steps.0 at.invariant.2 in
    let steps : length (into_iter_items at.path-iterator) ≡ suc (length (into_iter_items c.next.new.self)) = ap length c.in-Some.ensures.steps.0 in
    let count : length left ≡ length (into_iter_items c.next.new.self) = length-map (into_iter_items c.next.new.self) string_bytes in
    let few : length (sources_of at.files.items) + suc (length left) ≤ 4096 = omega (arith, at.invariant.5, steps, count) in
    let gives = subst (λ (o : Option (List FileOf)). IfSome o (λ fs. ReadsFile fs c.as_str.result.now 1048576 c.in_ok-bytes.field-0)) c.in_ok-bytes.ensures.same c.in_ok-bytes.ensures.read in
    let whole = subst (λ (k : Content). IfSome (g.T.SourceTree.files at.tree) (λ fs. ReadsFile fs c.as_str.result.now 1048576 k)) c.in-Whole.is gives in
    subst (λ (o : Option (List FileOf)). IfSome o (PassesOf TotalBytes)) at.invariant.0
    (read_too_many (g.T.SourceTree.files at.tree) (sources_of at.files.items) (string_bytes c.in-Some.path) c.as_str.result.now left c.as_str.ensures.value front few at.invariant.4 c.in-Whole.bytes (omega (arith, at.invariant.3, c.if-total-gt-MOST_TOTAL.true, c.len-total.ensures, c.in-Whole.bytes.ok.0)) whole)

pub loop-path-preserved : goal.loop-path-preserved
loop-path-preserved g c =
    let at = c.loop-path in
    let read = sources_of at.files.items in
    let here : FileOf = record { path = string_bytes c.in-Some.path; bytes = c.in-Whole.bytes.items } in
    let left = map string_bytes (into_iter_items c.next.new.self) in
    let front = subst (λ (l : List (String Global)). IfSome (g.T.SourceTree.files at.tree) (IsFront read (map string_bytes l))) c.in-Some.ensures.steps.0 at.invariant.2 in
    let steps : length (into_iter_items at.path-iterator) ≡ suc (length (into_iter_items c.next.new.self)) = ap length c.in-Some.ensures.steps.0 in
    let gives = subst (λ (o : Option (List FileOf)). IfSome o (λ fs. ReadsFile fs c.as_str.result.now 1048576 c.in_ok-bytes.field-0)) c.in_ok-bytes.ensures.same c.in_ok-bytes.ensures.read in
    let whole = subst (λ (k : Content). IfSome (g.T.SourceTree.files at.tree) (λ fs. ReadsFile fs c.as_str.result.now 1048576 k)) c.in-Whole.is gives in
    let next = read_whole (g.T.SourceTree.files at.tree) read (string_bytes c.in-Some.path) c.as_str.result.now left c.as_str.ensures.value front c.in-Whole.bytes whole in
    let moved : sources_of c.push.new.self.items ≡ read ++ here ∷ [] = ap sources_of c.in_ok-push.ensures.items ∙ map-append source_of at.files.items _ in
    let small : length c.in-Whole.bytes.items ≤ 1048576 = subst (IsWithin 1048576) c.in-Whole.is c.in_ok-bytes.ensures.within in
    let size = one_more_size read here in
    let many : length (read ++ here ∷ []) ≡ length read + 1 = length-append read (here ∷ []) in
    let longer : length (sources_of c.push.new.self.items) ≡ length (read ++ here ∷ []) = ap length moved in
    let larger : sizes (sources_of c.push.new.self.items) ≡ sizes (read ++ here ∷ []) = ap sizes moved in (
      c.in_ok-bytes.ensures.same ∙ at.invariant.0,
      omega (arith, at.invariant.1, c.in_ok-bytes.ensures.count),
      subst (λ (o : Option (List FileOf)). IfSome o (IsFront (sources_of c.push.new.self.items) left)) (sym c.in_ok-bytes.ensures.same) (subst (λ (ss : List FileOf). IfSome (g.T.SourceTree.files at.tree) (IsFront ss left)) (sym moved) next),
      omega (arith, at.invariant.3, size, larger, c.len-total.ensures, c.in-Whole.bytes.ok.0),
      ap (passed_from 0) moved ∙ one_more_unpassed read here at.invariant.4 small (omega (arith, at.invariant.3, c.if-total-gt-MOST_TOTAL.false, c.len-total.ensures, c.in-Whole.bytes.ok.0)),
      omega (arith, at.invariant.5, steps, many, longer),
      omega (arith, at.invariant.6, c.in-Some.ensures.steps.1, steps),
    )

pub returns-clause-gathered : goal.returns-clause-gathered
returns-clause-gathered g c =
    let at = c.loop-path in
    let read = sources_of at.files.items in
    let empty : into_iter_items at.path-iterator ≡ [] = no_more (into_iter_items at.path-iterator) (sym at.invariant.6 ∙ c.in-None.ensures.steps.0) in
    let front = subst (λ (l : List (String Global)). IfSome (g.T.SourceTree.files at.tree) (IsFront read (map string_bytes l))) empty at.invariant.2 in
    let few : length read ≤ 4096 = omega (arith, at.invariant.5) in
    subst (λ (o : Option (List FileOf)). IfSome o (λ fs. AreSources fs read × (length read ≤ 4096) × (passed_from 0 read ≡ None))) at.invariant.0
    (IfSome-map (g.T.SourceTree.files at.tree) (IsFront read []) (λ fs. AreSources fs read × (length read ≤ 4096) × (passed_from 0 read ≡ None)) (λ fs f. (all_read fs read f, few, at.invariant.4)) front)

pub returns-clause-within : goal.returns-clause-within
returns-clause-within g c = within_limits (sources_of c.loop-path.files.items) (omega (arith, c.loop-path.invariant.5)) c.loop-path.invariant.4
