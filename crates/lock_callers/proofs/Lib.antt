mod ServedSteps
