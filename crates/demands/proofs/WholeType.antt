-- With the least and the greatest integer for bounds the normaliser gives what document 01 asks for: nothing is cut, and no leaf reaches outside. Assumes nothing.
use Prim.Native.Nat.{ℕ}
use mathlib.Core.Path.{◌≡◌, sym, ap, ◌∙◌}
use mathlib.Core.Bool.{true}
use mathlib.Core.List.{List, []}
use lib.Dec.{ltb}
use lib.ListN.{length}
use Rattle.facts.proofs.Cases.{by-test}
use Rattle.integers.specs.Integer.{least, greatest}
use Rattle.grammar.specs.Element.{Elem}
use Rattle.grammar.specs.Leaf.{Leaf, leaf_head, typed_head}
use Rattle.grammar.specs.Read.{Read, refuse, got}
use Rattle.grammar.specs.Reading.{read_element}
use Rattle.grammar.proofs.RefusalNumbers.{Cases, is_refused, is_read, element_cases}
use Rattle.grammar.proofs.TypedReading.{whole_read}
use Rattle.ranges.specs.Spans.{Span, Ascending, gaps}
use Rattle.ranges.proofs.JoinsAndGaps.{proper_of, ascending_gaps}
use Rattle.ranges.proofs.Cuts.{cut_whole}
use Rattle.forms.specs.Form.{form, normal_form}
use Rattle.forms.specs.Matched.{ranges_of}
use Rattle.forms.specs.Answer.{placed, read_under, answer_to, normalised}
use Rattle.forms.proofs.Accepts.{accepted_facts}
use Rattle.forms.proofs.Sets.{elem_set}
use Rattle.demands.specs.DocumentOne.{whole_form, whole_answer, normalised_whole}

whole_form_lem : (rs : List Span) → Ascending rs → form least greatest rs ≡ whole_form rs
unfolding form whole_form
whole_form_lem rs f = rw (cut_whole rs (proper_of rs f), cut_whole (gaps rs) (proper_of (gaps rs) (ascending_gaps rs f)))

long_read : (t : List ℕ) → ltb 4096 (length t) ≡ true → read_element leaf_head t ≡ refuse 2
unfolding read_element
long_read t e = rw e

-- the bounds are in order
after_length : (t room : List ℕ) → normalised least greatest t room ≡ answer_to least greatest (read_element leaf_head t) room
unfolding normalised read_under answer_to
after_length t room =
    by-test (ltb 4096 (length t))
    (λ e. rw (e, long_read t e))
    (λ e. rw e (ap (λ (o : Read (Elem Leaf)). answer_to least greatest o room) (whole_read t)))

pub whole_type : (t room : List ℕ) → normalised least greatest t room ≡ normalised_whole t room
unfolding normalised_whole answer_to whole_answer normal_form
whole_type t room = after_length t room ∙ go (element_cases least greatest t)
  where
    go : Cases (read_element (typed_head least greatest) t) → answer_to least greatest (read_element leaf_head t) room ≡ whole_answer (read_element leaf_head t) room
    go (is_refused r q n) = let a : read_element leaf_head t ≡ refuse r = sym (whole_read t) ∙ q in rw a
    go (is_read e q) =
        let a : read_element leaf_head t ≡ got e [] = sym (whole_read t) ∙ q in
        rw a (ap (λ (f : List ℕ). placed f room) (whole_form_lem (ranges_of e) (elem_set e (accepted_facts t e a).0).ascending))
