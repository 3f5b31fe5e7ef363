-- Each item's text is appended behind those before it.
use Rattle.std.proofs.Common.{◌≡◌, List, ℕ, [], ◌∷◌, ◌++◌, ap₂, ◌∙◌}
use Rattle.std.specs.List.{flat_map}
use Rattle.std.proofs.lemmas.List.{flat_map_more}
use Rattle.std.specs.String.{string_bytes}
use Rattle.arcstr.proofs.collecting.append.Goals as goal

with_one_more : {X : Type 0} (of : X → List ℕ) (xs : List X) (x : X) (before old text new : List ℕ)
    → old ≡ before ++ flat_map of xs → text ≡ of x → new ≡ old ++ text → new ≡ before ++ flat_map of (xs ++ x ∷ [])
with_one_more of xs x before old text new so_far is appended = appended ∙ ap₂ (λ ys zs. ys ++ zs) so_far is ∙ flat_map_more of before xs x

pub loop-item-preserved : goal.loop-item-preserved
loop-item-preserved g c =
    let goes = c.in-Some.ensures.goes.on c.loop-item.invariant.1 in (
      goes.0,
      goes.1,
      with_one_more g.S.AsStr.text c.loop-item.yielded c.in-Some.item (string_bytes c.args.to.now) (string_bytes c.loop-item.to) c.as_str.result.now
          (string_bytes c.push_str.new.self) c.loop-item.invariant.2 c.as_str.ensures c.in_ok-push_str.ensures.bytes,
    )
