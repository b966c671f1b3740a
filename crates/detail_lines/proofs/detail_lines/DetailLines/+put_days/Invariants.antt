use Rattle.detail_lines.proofs.detail_lines.DetailLines.+put_days.Given as goal

-- a date that is followed stands before
abbrev pub decreases-put_days : goal.decreases-put_days
decreases-put_days l = l.column
