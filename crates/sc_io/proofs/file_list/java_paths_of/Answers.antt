use Rattle.std.proofs.Common.{◌≡◌, string_bytes, refl, sym, ◌∙◌, ap}
use Rattle.std.proofs.lemmas.Bool.{false≢true}
use Rattle.std.proofs.lemmas.List.{take_all}
use Rattle.sc_io.proofs.FileLists.{ListsSources-listed, ListsSources-passed}
use Rattle.sc_io.proofs.file_list.java_paths_of.Goals as goal
use Rattle.sc_io.proofs.file_list.java_paths_of.Goals.{then-is_java_path+in_ok-from_str+in_ok-push, else-is_java_path}

pub loop-path-preserved : goal.loop-path-preserved
loop-path-preserved c =
    elim c.if-is_java_path.branch [
      | then-is_java_path+in_ok-from_str+in_ok-push w ↦
          let of : c.as_str.result.now ≡ string_bytes c.loop-path-item.result.0 = cc in
          ListsSources-listed c.args.files.now c.loop-path.path-index c.loop-path-item.result c.loop-path-test.true c.loop-path-item.is c.as_str.result.now of (w.if-is_java_path.ensures.0 refl) c.loop-path.paths.items _ w.in_ok-from_str.field-0 (ap (λ v. v.items) w.paths-is ∙ w.in_ok-push.ensures.items) (w.in_ok-from_str.ensures.ok ∙ w.as_str-then-is_java_path.ensures.value ∙ sym of) c.loop-path.invariant
      | else-is_java_path w ↦
          let of : c.as_str.result.now ≡ string_bytes c.loop-path-item.result.0 = cc in
          rw w.paths-is (ListsSources-passed c.args.files.now c.loop-path.path-index c.loop-path-item.result c.loop-path-test.true c.loop-path-item.is c.as_str.result.now of (λ java. false≢true (w.if-is_java_path.ensures.1 java)) _ c.loop-path.invariant)
    ]

pub returns : goal.returns
returns c = rw (take_all c.loop-path.path-index c.args.files.now c.loop-path-test.false) at c.loop-path.invariant
