use Rattle.descend.proofs.+item_at.Given as goal

-- proposed from what the function passes where it calls itself
abbrev pub decreases-item_at : goal.decreases-item_at
decreases-item_at l = l.left
