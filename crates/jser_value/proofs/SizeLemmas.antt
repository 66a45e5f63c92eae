-- How long spellings are.
use Rattle.std.proofs.Common.{◌≡◌, ◌+◌, length, refl, arith, length-append}
use Rattle.jser_grammar.specs.Trees.{ContentTrees, no_contents, content_and}
use Rattle.jser_grammar.specs.Spelling.{annotation_spelling, contents_spelling, content_spelling}

-- an annotation has one byte more than its contents
pub length_annotation : (cs : ContentTrees) → length (annotation_spelling cs) ≡ length (contents_spelling cs) + 1
length_annotation no_contents = refl
length_annotation (content_and c cs) =
    omega (
      arith,
      length-append (content_spelling c) (annotation_spelling cs),
      length-append (content_spelling c) (contents_spelling cs),
      length_annotation cs,
    )
